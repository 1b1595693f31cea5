use Rattle.std.proofs.Common.{◌⊎◌, ◌↔◌, ◌+◌, ℕ, Vec, Global, get_or, true≢false, ap, sym, subst, ◌∙◌, arith}
use Rattle.std.specs.Prelude.{IsSome, IsTrue, Any}
use Rattle.std.proofs.lemmas.List.Elements.{Contains-get_or}
use Rattle.std.proofs.lemmas.List.Sorted.{Contains-permutation, IsPermutation-sym}
use Rattle.weighted_relations.specs.Machines.{final_of}
use Rattle.acceptor_ops.specs.StateSets.{HasLabel}
use Rattle.acceptor_ops.proofs.Filling.{ActiveTo, active_of, active_none, active_yes, active_no, active_all}
use Rattle.acceptor_ops.proofs.kernels.active.Goals as goal
use Rattle.acceptor_ops.proofs.kernels.active.Goals.{then-is_active+in_ok-push, else-is_active}

pub loop-s-init : goal.loop-s-init
loop-s-init c = subst (ActiveTo c.args.a.now c.args.states.now 0) (sym c.new-kept.ensures.items) (active_none c.args.a.now c.args.states.now)

pub final_of-requires : goal.final_of-requires
final_of-requires c = record { state = c.requires.within (get_or c.args.states.now c.loop-s.s-index 0) (Contains-get_or c.args.states.now c.loop-s.s-index 0 c.loop-s-test.true) }

pub arcs_of-requires : goal.arcs_of-requires
arcs_of-requires c = record { state = c.requires.within (get_or c.args.states.now c.loop-s.s-index 0) (Contains-get_or c.args.states.now c.loop-s.s-index 0 c.loop-s-test.true) }

pub loop-s-preserved : goal.loop-s-preserved
loop-s-preserved c =
    let s = get_or c.args.states.now c.loop-s.s-index 0 in
    let is : IsTrue c.is_active.result ↔ (IsSome (final_of c.args.a.now.finals s) ⊎ Any HasLabel c.arcs_of.result.now) = subst (λ o. IsTrue c.is_active.result ↔ (IsSome o ⊎ Any HasLabel c.arcs_of.result.now)) c.final_of.ensures.value c.is_active.ensures.active in
    let means = active_of c.args.a.now s c.arcs_of.result.now c.arcs_of.ensures.value in
    elim c.if-is_active.branch [
      | then-is_active+in_ok-push w ↦
          subst (ActiveTo c.args.a.now c.args.states.now (c.loop-s.s-index + 1)) (sym (ap (λ (v : Vec ℕ Global). v.items) w.kept-is ∙ w.in_ok-push.ensures.items))
          (active_yes c.args.a.now c.args.states.now c.loop-s.s-index c.loop-s.kept.items c.loop-s-test.true c.loop-s.invariant (means.0 (is.0 w.if-is_active.true)))
      | else-is_active w ↦
          subst (ActiveTo c.args.a.now c.args.states.now (c.loop-s.s-index + 1)) (sym (ap (λ (v : Vec ℕ Global). v.items) w.kept-is))
          (active_no c.args.a.now c.args.states.now c.loop-s.s-index c.loop-s.kept.items c.loop-s.invariant (λ h. absurd (true≢false (sym (is.1 (means.1 h)) ∙ w.if-is_active.false))))
    ]

pub returns : goal.returns
returns c =
    let all = active_all c.args.a.now c.args.states.now c.loop-s.s-index c.loop-s.kept.items (omega arith) c.loop-s.invariant in
    record {
      active = λ s. (
        λ h. (all s).0 (Contains-permutation c.sort.new.self.items c.loop-s.kept.items s (IsPermutation-sym c.loop-s.kept.items c.sort.new.self.items c.in_ok-sort.ensures.permutation) h),
        λ h. Contains-permutation c.loop-s.kept.items c.sort.new.self.items s c.in_ok-sort.ensures.permutation ((all s).1 h),
      );
    }
