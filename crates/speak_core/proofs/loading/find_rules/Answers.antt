use Rattle.std.proofs.Common.{◌∙◌, sym}
use Rattle.std.proofs.lemmas.List.{length-map}
use Rattle.std.proofs.lemmas.Option.{IfSome_then}
use Rattle.std.proofs.lemmas.Result.{IfOk-weaker}
use Rattle.core_expressions.specs.Views.{expression_of}
use Rattle.thrax_link.specs.Exports.{exports_of}
use Rattle.speak_core.specs.Loaded.{expressions_of}
use Rattle.speak_core.proofs.Found.{rules_found}
use Rattle.speak_core.proofs.Named.{named_count}
use Rattle.speak_core.proofs.loading.find_rules.Goals as goal

pub returns-in-Ok-clause-finds : goal.returns-in-Ok-clause-finds
returns-in-Ok-clause-finds g c =
    IfSome_then (g.H.Shelf.files c.args.shelf.now) c.in-Ok.ensures.finds
    (λ files is. rules_found files c.args.file.now c.args.names.now (exports_of c.in-Ok.grammar) is c.rules_of.result c.rules_of.ensures.found c.rules_of.ensures.refused)

pub returns-in-Ok-clause-count : goal.returns-in-Ok-clause-count
returns-in-Ok-clause-count g c =
    IfOk-weaker c.rules_of.result _ _ (λ rules is. sym (length-map rules.items expression_of) ∙ sym (named_count c.args.file.now (exports_of c.in-Ok.grammar) c.args.names.now (expressions_of rules) is)) c.rules_of.ensures.found

pub returns-in-Err-clause-finds : goal.returns-in-Err-clause-finds
returns-in-Err-clause-finds g c = IfSome_then (g.H.Shelf.files c.args.shelf.now) c.in-Err.ensures.finds (λ files h. h c.args.names.now)
