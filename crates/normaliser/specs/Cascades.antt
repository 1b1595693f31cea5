-- The two cascades of a normaliser's table, by their places.
use Rattle.std.specs.Prelude.{◌≡◌, ℕ, zero, suc, List, [], ◌∷◌}
use Rattle.state_tuples.specs.Cascades.{Cascaded, first_tuple}
use Rattle.state_tuples.specs.declared.tuples.Tuple.{Tuple}
use Rattle.weighted_relations.specs.Machines.{Reads}
use Rattle.weighted_relations.specs.Relations.{Cascade, IsUnmarked, Nothing, Relation}

-- the relation of one of some cascades, counted from 0
abbrev pub relation_at : ℕ → List Cascaded → Relation
relation_at n [] = Nothing
relation_at zero (c ∷ cs) = Cascade Reads c.parts
relation_at (suc n) (c ∷ cs) = relation_at n cs

-- neither the first nor the second reads or writes a mark
pub record AreUnmarked (cs : List Cascaded) : Type 0 where
  pub classifier : IsUnmarked (relation_at 0 cs)
  pub verbaliser : IsUnmarked (relation_at 1 cs)

-- one of some cascades, counted from 0, begins at the tuple
abbrev pub Begins : List Cascaded → ℕ → Tuple → Type 0
Begins [] n start = ⊥
Begins (c ∷ cs) zero start = start ≡ first_tuple c
Begins (c ∷ cs) (suc n) start = Begins cs n start
