use Rattle.std.proofs.Common.{◌≡◌, length, subst, arith}
use Rattle.acceptor_ops.specs.Alike.{RowNoted, StepsTo}
use Rattle.acceptor_ops.proofs.Labels.{steps_more}
use Rattle.acceptor_ops.proofs.classes.steps_of.Goals as goal

pub loop-s-preserved : goal.loop-s-preserved
loop-s-preserved c =
    let m = c.args.a.now in
    let s = c.loop-s.s in
    steps_more m s c.loop-s.pairs c.note.new.pairs c.loop-s.steps c.note.new.steps c.loop-s.invariant
    (subst (λ r. RowNoted s r (length r) c.loop-s.pairs c.loop-s.steps c.note.new.pairs c.note.new.steps) c.arcs_of.ensures.value c.in_ok-note.ensures.noted)

pub returns : goal.returns
returns c =
    let e : c.loop-s.s ≡ length c.args.a.now.arcs = (let n = c.len-s-end.ensures.count in omega arith) in
    record { steps = (c.loop-s.pairs, subst (λ k. StepsTo c.args.a.now k c.loop-s.pairs c.loop-s.steps) e c.loop-s.invariant) }
