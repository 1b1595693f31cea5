-- The cascades of a table.
use Rattle.std.specs.Prelude.{◌≡◌, List, [], ◌∷◌}
use Rattle.state_tuples.specs.Cascades.{Cascaded}
use Rattle.shared_cascade.specs.declared.facts.Grammars.{Grammars}

abbrev pub cascades_of : Grammars → List Cascaded
cascades_of g = g.classifier ∷ g.verbaliser ∷ []

-- each has its place among them as its number
abbrev pub HaveNumbers : Grammars → Type 0
HaveNumbers g = (g.classifier.number ≡ 0) × (g.verbaliser.number ≡ 1)
