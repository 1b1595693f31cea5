use Rattle.std.proofs.Common.{◌≡◌, length, None, sym, ap, subst, ◌∙◌, arith, refl}
use Rattle.weighted_relations.specs.Relations.{Same, Reversed}
use Rattle.weighted_relations.specs.Machines.{Reads, final_of, WellFormed}
use Rattle.fst_core.specs.States.{with_state, as_machine}
use Rattle.fst_core.specs.Turned.{TurnedArcs, Below, OneFinal}
use Rattle.fst_core.proofs.Turns.{turned_none}
use Rattle.fst_core.proofs.Backwards.{turned_sound, turned_reads}
use Rattle.fst_core.proofs.Tops.{turned_top}
use Rattle.fst_core.proofs.reverses.reverse.Goals as goal

pub loop-s-init : goal.loop-s-init
loop-s-init c =
    let one : OneFinal c.args.a.now.start (length c.args.a.now.arcs) c.in_ok-built.built = subst (λ s. OneFinal s (length c.args.a.now.arcs) c.in_ok-built.built) c.start-start.ensures.value (subst (λ n. OneFinal c.start-start.result n c.in_ok-built.built) c.len-n.ensures.count c.in_ok-built.ensures) in
    record { turned = turned_none c.args.a.now c.args.a.now.start c.in_ok-built.built one; finals = refl }

pub finish-requires : goal.finish-requires
finish-requires c = record {
  sound =
      let one : OneFinal c.args.a.now.start (length c.args.a.now.arcs) c.in_ok-built.built = subst (λ s. OneFinal s (length c.args.a.now.arcs) c.in_ok-built.built) c.start-start.ensures.value (subst (λ n. OneFinal c.start-start.result n c.in_ok-built.built) c.len-n.ensures.count c.in_ok-built.ensures) in
      let e : c.loop-s.s ≡ length c.args.a.now.arcs = omega arith in
      let same : c.loop-s.built.finals ≡ c.in_ok-built.built.finals = c.loop-s.invariant.finals in
      let turned = subst (λ k. TurnedArcs c.args.a.now (Below k) c.loop-s.built.arcs) e c.loop-s.invariant.turned in
      subst WellFormed (ap (λ n. as_machine n c.push.new.self) (sym c.len-n.ensures.count))
      (subst (λ b. WellFormed (as_machine (length c.args.a.now.arcs) b)) (sym c.in_ok-push.ensures.value)
      (turned_sound c.args.a.now c.loop-s.built c.in_ok-hub.hub.items c.start-start.ensures.sound turned c.in_ok-hub.ensures (ap length same ∙ one.count) (ap (λ f. final_of f c.args.a.now.start) same ∙ one.is c.start-start.ensures.sound.start) (λ s w h. one.only s w (sym (ap (λ f. final_of f s) same) ∙ h))));
}

pub returns-clause-readings : goal.returns-clause-readings
returns-clause-readings c =
    let one : OneFinal c.args.a.now.start (length c.args.a.now.arcs) c.in_ok-built.built = subst (λ s. OneFinal s (length c.args.a.now.arcs) c.in_ok-built.built) c.start-start.ensures.value (subst (λ n. OneFinal c.start-start.result n c.in_ok-built.built) c.len-n.ensures.count c.in_ok-built.ensures) in
    let e : c.loop-s.s ≡ length c.args.a.now.arcs = omega arith in
    let same : c.loop-s.built.finals ≡ c.in_ok-built.built.finals = c.loop-s.invariant.finals in
    let turned = subst (λ k. TurnedArcs c.args.a.now (Below k) c.loop-s.built.arcs) e c.loop-s.invariant.turned in
    let is : c.finish.result ≡ as_machine (length c.args.a.now.arcs) (with_state c.loop-s.built c.in_ok-hub.hub.items None) = c.finish.ensures.value ∙ ap (λ n. as_machine n c.push.new.self) c.len-n.ensures.count ∙ ap (as_machine (length c.args.a.now.arcs)) c.in_ok-push.ensures.value in
    subst (λ m. Same (Reads m) (Reversed (Reads c.args.a.now))) (sym is)
    (turned_reads c.args.a.now c.loop-s.built c.in_ok-hub.hub.items c.start-start.ensures.sound turned c.in_ok-hub.ensures (ap length same ∙ one.count) (ap (λ f. final_of f c.args.a.now.start) same ∙ one.is c.start-start.ensures.sound.start) (λ s w h. one.only s w (sym (ap (λ f. final_of f s) same) ∙ h)))

pub returns-clause-top : goal.returns-clause-top
returns-clause-top c =
    let one : OneFinal c.args.a.now.start (length c.args.a.now.arcs) c.in_ok-built.built = subst (λ s. OneFinal s (length c.args.a.now.arcs) c.in_ok-built.built) c.start-start.ensures.value (subst (λ n. OneFinal c.start-start.result n c.in_ok-built.built) c.len-n.ensures.count c.in_ok-built.ensures) in
    let e : c.loop-s.s ≡ length c.args.a.now.arcs = omega arith in
    let same : c.loop-s.built.finals ≡ c.in_ok-built.built.finals = c.loop-s.invariant.finals in
    let turned = subst (λ k. TurnedArcs c.args.a.now (Below k) c.loop-s.built.arcs) e c.loop-s.invariant.turned in
    turned_top c.args.a.now c.finish.result c.loop-s.built c.in_ok-hub.hub.items c.len-n.result turned c.in_ok-hub.ensures (ap length same ∙ one.count) (λ s w h. one.only s w (sym (ap (λ f. final_of f s) same) ∙ h)) (c.finish.ensures.value ∙ ap (as_machine c.len-n.result) c.in_ok-push.ensures.value)
