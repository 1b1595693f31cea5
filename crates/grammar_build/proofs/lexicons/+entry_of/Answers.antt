use Rattle.std.proofs.Common.{refl, sym, ap, subst, ◌∙◌}
use Rattle.std.specs.Prelude.{IfSome}
use Rattle.weighted_relations.specs.Expressions.{weighted}
use Rattle.core_expressions.specs.Views.{expression_of}
use Rattle.core_expressions.specs.ViewLaws.{of_text, of_weighted}
use Rattle.grammar_build.specs.Parts.{IsEntryOf}
use Rattle.grammar_build.proofs.Members.{text_entry, weighted_entry}
use Rattle.grammar_build.proofs.lexicons.+entry_of.Goals as goal

pub returns-in_ok-output-in-Text : goal.returns-in_ok-output-in-Text
returns-in_ok-output-in-Text t c = text_entry (expression_of c.args.e.now) c.in-Text.labels.items (record { input = c.in_ok-input-in-Text.input; output = c.in_ok-output-in-Text.output; weight = 0 }) (ap expression_of c.in-Text.is ∙ of_text c.in-Text.labels) c.requires.kinds (c.in_ok-input-in-Text.ensures.items ∙ c.deref.ensures.value) (c.in_ok-output-in-Text.ensures.items ∙ c.deref-in-Text.ensures.value) refl

pub returns-in-Some : goal.returns-in-Some
returns-in-Some t c =
    weighted_entry (expression_of c.args.e.now) (expression_of c.deref-in-Weighted.result.now) c.in-Weighted.weight c.in-Some.entry c.added.result
    (ap expression_of c.in-Weighted.is ∙ of_weighted c.in-Weighted.part c.in-Weighted.weight ∙ ap (λ z. weighted (expression_of z) c.in-Weighted.weight) (sym c.deref-in-Weighted.ensures))
    c.requires.weights
    (subst (λ o. IfSome o (λ z. IsEntryOf z (expression_of c.deref-in-Weighted.result.now))) c.in-Some.is c.in_ok-entry-in-Weighted.ensures)
    c.added.ensures.input c.added.ensures.output c.added.ensures.weight
