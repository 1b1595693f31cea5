use Rattle.std.proofs.Common.{◌≡◌, ◌∙◌, ◌++◌, ◌∷◌, [], All, ap, map, subst, sym}
use Rattle.std.proofs.lemmas.List.{map-append}
use Rattle.std.proofs.lemmas.List.Elements.{All-push}
use Rattle.core_expressions.specs.Views.{expression_of}
use Rattle.normaliser.specs.Loads.{CanBeBuilt}
use Rattle.normaliser_tests.proofs.rules.rules.Goals as goal

pub loop-grammar-preserved : goal.loop-grammar-preserved
loop-grammar-preserved c =
    let more : map expression_of c.push.new.self.items ≡ map expression_of c.loop-grammar.rules.items ++ expression_of c.in_ok-made.made ∷ [] =
    ap (map expression_of) c.in_ok-push.ensures.items ∙ map-append expression_of c.loop-grammar.rules.items (c.in_ok-made.made ∷ []) in
    subst (All CanBeBuilt) (sym more) (All-push CanBeBuilt (map expression_of c.loop-grammar.rules.items) (expression_of c.in_ok-made.made) c.loop-grammar.invariant c.in_ok-made.ensures)
