use Rattle.std.proofs.Common.{IfSome, Ok, rules}
use Rattle.speak_setup.specs.Setups.{names_of}
use Rattle.std.proofs.lemmas.Option.{IfSome_then}
use Rattle.speak_core.specs.Accepted.{ClassifierOf, IsOnly, PlanOf, VerbaliserOf}
use Rattle.speak_core.specs.Loaded.{StopsAs, expressions_of}
use Rattle.speak_core.proofs.Found.{both_known, both_only, known_before, no_classifier_only, no_verbaliser_only, stops_through}
use Rattle.speak_core.proofs.loading.find_plan.Goals as goal

pub returns-in_err-classifier-clause-finds : goal.returns-in_err-classifier-clause-finds
returns-in_err-classifier-clause-finds g c =
    let names = names_of c.args.setup.now in
    let refused : IfSome (g.H.Shelf.files c.args.shelf.now) (λ files. StopsAs (PlanOf files c.args.mode names) c.in_err-classifier.field-0.0) =
    IfSome_then (g.H.Shelf.files c.args.shelf.now) (rw c.deref.ensures.value at c.in_err-classifier.ensures.finds)
    (λ files h. stops_through (ClassifierOf files names) (PlanOf files c.args.mode names) _ (no_classifier_only files names c.args.mode) h) in
    search rules

pub returns-in_err-verbaliser-clause-finds : goal.returns-in_err-verbaliser-clause-finds
returns-in_err-verbaliser-clause-finds g c =
    let names = names_of c.args.setup.now in
    let mode = c.args.mode in
    let refused : IfSome (g.H.Shelf.files c.args.shelf.now) (λ files. StopsAs (PlanOf files mode names) c.in_err-verbaliser.field-0.0) =
    both_known (g.H.Shelf.files c.args.shelf.now) (rw c.deref.ensures.value at c.in_ok-classifier.ensures.finds)
    (known_before (λ files. StopsAs (VerbaliserOf files mode names) c.in_err-verbaliser.field-0.0) (g.H.Shelf.files c.args.shelf.now) (g.H.Shelf.files c.find_rules.new.shelf) c.find_rules.ensures.files c.in_err-verbaliser.ensures.finds)
    (λ files o h. stops_through (VerbaliserOf files mode names) (PlanOf files mode names) _ (no_verbaliser_only files names mode (expressions_of c.in_ok-classifier.classifier) o) h) in
    search rules

pub returns-clause-finds : goal.returns-clause-finds
returns-clause-finds g c =
    let names = names_of c.args.setup.now in
    let mode = c.args.mode in
    both_known (g.H.Shelf.files c.args.shelf.now) (rw c.deref.ensures.value at c.in_ok-classifier.ensures.finds)
    (known_before (λ files. IsOnly (VerbaliserOf files mode names) (Ok (expressions_of c.in_ok-verbaliser.verbaliser))) (g.H.Shelf.files c.args.shelf.now) (g.H.Shelf.files c.find_rules.new.shelf) c.find_rules.ensures.files c.in_ok-verbaliser.ensures.finds)
    (λ files o p. both_only files names mode (expressions_of c.in_ok-classifier.classifier) o (expressions_of c.in_ok-verbaliser.verbaliser) p)
