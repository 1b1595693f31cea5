use Rattle.std.proofs.Common.{◌≡◌, length, arith, subst, refl}
use Rattle.fst_core.specs.Turned.{TurnedArcs, Below}
use Rattle.fst_core.specs.Turned.{OneFinal}
use Rattle.fst_core.proofs.Turns.{turned_none}
use Rattle.fst_core.proofs.Living.{backwards_sound}
use Rattle.fst_core.proofs.lives.backwards.Goals as goal

pub loop-s-init : goal.loop-s-init
loop-s-init c = record { turned = turned_none c.args.a.now c.len-2.result c.in_ok-built.built (subst (λ n. OneFinal c.len-2.result n c.in_ok-built.built) c.len.ensures.count c.in_ok-built.ensures); finals = refl }

pub finish-requires : goal.finish-requires
finish-requires c =
    let m = c.args.a.now in
    let e : c.loop-s.s ≡ length m.arcs = omega arith in
    let turned = subst (λ k. TurnedArcs m (Below k) c.loop-s.built.arcs) e c.loop-s.invariant.turned in
    record { sound = backwards_sound m c.start-start.result c.len-2.result c.len.result c.loop-s.built c.in_ok-built.built c.start-start.ensures.sound c.start-start.ensures.value c.len.ensures.count turned c.in_ok-built.ensures c.loop-s.invariant.finals }
