use Rattle.std.specs.Prelude.{IfSome, [], ◌∷◌}
use Rattle.std.proofs.Common.{refl, sym, subst, arith}
use Rattle.std.proofs.lemmas.List.Elements.{All-pop}
use Rattle.state_tuples.specs.Calls.{IsKnown}
use Rattle.shared_cascade.specs.Callers.{IsNew}
use Rattle.cascade_tests.proofs.hands.expansions_are_kept.Goals as goal

pub asked-requires-clause-ready : goal.asked-requires-clause-ready
asked-requires-clause-ready g c =
    let New = IsNew c.in_ok-shared.shared in
    let one = (All-pop New c.in_ok-shared.callers.items c.pop.new.self.items c.pop.result c.pop.ensures.items c.in_ok-shared.ensures.callers).1 in
    (subst (λ r. IfSome r New) c.expect-caller.ensures one).ready

pub asked-requires-in-loop-places-clause-known : goal.asked-requires-in-loop-places-clause-known
asked-requires-in-loop-places-clause-known g c =
    let first = c.expect-classifier.result in
    let second = c.expect-verbaliser.result in
    subst (λ cs. IsKnown cs c.start-large.result) (sym c.in_ok-shared.ensures.cascades) (second, (1, omega arith, refl), c.start-large.ensures.known)

pub asked-requires-in-loop-places-2-clause-known : goal.asked-requires-in-loop-places-2-clause-known
asked-requires-in-loop-places-2-clause-known g c =
    let first = c.expect-classifier.result in
    subst (λ cs. IsKnown cs c.start-small.result) (sym c.in_ok-shared.ensures.cascades) (first, (0, omega arith, refl), c.start-small.ensures.known)

pub asked-requires-in-loop-places-3-clause-known : goal.asked-requires-in-loop-places-3-clause-known
asked-requires-in-loop-places-3-clause-known g c =
    let first = c.expect-classifier.result in
    subst (λ cs. IsKnown cs c.start-small.result) (sym c.in_ok-shared.ensures.cascades) (first, (0, omega arith, refl), c.start-small.ensures.known)
