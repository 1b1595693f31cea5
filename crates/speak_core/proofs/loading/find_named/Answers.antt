use Rattle.std.proofs.Common.{IfSome, rules}
use Rattle.std.proofs.lemmas.Option.{IfSome_then}
use Rattle.speak_setup.specs.Setups.{names_of}
use Rattle.speak_core.specs.Accepted.{NamesAsk, PlanOf}
use Rattle.speak_core.specs.Loaded.{StopsAs, plan_of}
use Rattle.speak_core.proofs.Found.{builds_names, stops_through, unplanned_only}
use Rattle.speak_core.proofs.loading.find_named.Goals as goal

pub returns-in_err-rules-clause-finds : goal.returns-in_err-rules-clause-finds
returns-in_err-rules-clause-finds g c =
    let names = names_of c.args.setup.now in
    let refused : IfSome (g.H.Shelf.files c.args.shelf.now) (λ files. StopsAs (NamesAsk files c.args.mode names) c.in_err-rules.field-0.0) =
    IfSome_then (g.H.Shelf.files c.args.shelf.now) c.in_err-rules.ensures.finds
    (λ files h. stops_through (PlanOf files c.args.mode names) (NamesAsk files c.args.mode names) _ (unplanned_only files c.args.mode names) h) in
    search rules

pub returns-clause-finds : goal.returns-clause-finds
returns-clause-finds g c =
    IfSome_then (g.H.Shelf.files c.args.shelf.now) c.in_ok-rules.ensures.finds
    (λ files o. builds_names files c.args.mode (names_of c.args.setup.now) (plan_of c.args.mode (names_of c.args.setup.now) c.in_ok-rules.rules) o c.build.result c.build.ensures.builds)
