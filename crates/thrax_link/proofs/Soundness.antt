-- What a grammar exports is sound.
use Rattle.std.proofs.Common.{ℕ, List, [], ◌∷◌}
use Rattle.std.specs.Prelude.{All}
use Rattle.std.proofs.lemmas.List.Elements.{All-cons, All-nil}
use Rattle.weighted_relations.specs.Expressions.{Expression, IsSound}
use Rattle.core_expressions.specs.Views.{expression_of}
use Rattle.checked_expressions.proofs.Soundness.{is_sound}
use Rattle.thrax_link.specs.Exports.{export_term, exports_of}
use Rattle.thrax_link.specs.declared.grammar.Export.{Export}

pub all_sound : (es : List Export) → All (λ rule. IsSound rule.1) (exports_of es)
all_sound [] = All-nil (λ (rule : List ℕ × Expression). IsSound rule.1)
all_sound (e ∷ es) =
    let v = e.value.value in
    All-cons (λ (rule : List ℕ × Expression). IsSound rule.1) (export_term e) (exports_of es) (is_sound (expression_of v.expr) v.size v.sound v.counted v.bounded) (all_sound es)
