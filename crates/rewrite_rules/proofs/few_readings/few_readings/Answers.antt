use Rattle.std.proofs.Common.{◌++◌, ◌∷◌, [], List, refl, sym, ap, subst, ◌∙◌}
use Rattle.lexicon_trees.specs.declared.entries.Entry.{Entry}
use Rattle.rewrite_rules.specs.Begun.{IsBegun, IsWithin}
use Rattle.rewrite_rules.specs.declared.few_readings.Begun.{Begun}
use Rattle.rewrite_rules.proofs.Ending.{Following, following_first, following_on, following_end, last_begun}
use Rattle.rewrite_rules.proofs.few_readings.few_readings.Goals as goal
use Rattle.rewrite_rules.proofs.few_readings.few_readings.Goals.{in-Some-state+in_ok-branch-in-Some-state, in-None+in_ok-push-in-None}

pub loop-init : goal.loop-init
loop-init c =
    let m = c.args.a.now in
    let b : Begun = c.first.result in
    subst (λ v. Following m v c.new-found.result.items) (sym {A = List Begun} (c.in_ok-push.ensures.items ∙ ap (λ v. v ++ b ∷ []) c.new-begun.ensures.items))
    (subst (Following m (b ∷ [])) (sym {A = List Entry} c.new-found.ensures.items)
    (following_first m b c.first.ensures.start c.first.ensures.input c.first.ensures.output c.first.ensures.weight c.first.ensures.begun))

pub branch-alloc-requires-clause-state : goal.branch-alloc-requires-clause-state
branch-alloc-requires-clause-state c =
    let is : IsBegun c.args.a.now c.in-Some.path = last_begun c.args.a.now c.loop.begun.items c.pop.new.self.items c.in-Some.path c.loop.found.items c.in-Some.ensures.items c.loop.invariant in
    subst (IsWithin c.args.a.now) c.in-Some-state.is is.within

pub branch-alloc-requires-clause-input : goal.branch-alloc-requires-clause-input
branch-alloc-requires-clause-input c = (last_begun c.args.a.now c.loop.begun.items c.pop.new.self.items c.in-Some.path c.loop.found.items c.in-Some.ensures.items c.loop.invariant).input

pub branch-alloc-requires-clause-output : goal.branch-alloc-requires-clause-output
branch-alloc-requires-clause-output c = (last_begun c.args.a.now c.loop.begun.items c.pop.new.self.items c.in-Some.path c.loop.found.items c.in-Some.ensures.items c.loop.invariant).output

pub loop-preserved : goal.loop-preserved
loop-preserved c =
    let m = c.args.a.now in
    let path : Begun = c.in-Some.path in
    let rest = c.pop.new.self.items in
    let found = c.loop.found.items in
    elim c.match-path.branch [
      | in-Some-state+in_ok-branch-in-Some-state w ↦
          subst (λ v. Following m v c.match-path.found.items) (sym {A = List Begun} (ap (λ v. v.items) w.begun-is))
          (subst (Following m w.branch-alloc.new.begun.items) (sym {A = List Entry} (ap (λ v. v.items) w.found-is))
          (following_on m c.loop.begun.items rest path found c.in-Some.ensures.items c.loop.invariant w.in-Some-state.state w.branch-alloc.new.begun.items w.in-Some-state.is w.in_ok-branch-in-Some-state.ensures.branched))
      | in-None+in_ok-push-in-None w ↦
          subst (λ v. Following m v c.match-path.found.items) (sym {A = List Begun} (ap (λ v. v.items) w.begun-is))
          (subst (Following m rest) (sym {A = List Entry} (ap (λ v. v.items) w.found-is ∙ w.in_ok-push-in-None.ensures.items))
          (following_end m c.loop.begun.items rest path found c.in-Some.ensures.items c.loop.invariant w.in-None.is (c.if-not-is_short.ensures.weight refl)))
    ]
