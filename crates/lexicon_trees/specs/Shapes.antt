-- The shape of a tree: inputs share their fronts.
use Rattle.std.specs.Prelude.{◌≡◌, ◌⊎◌, ◌<◌, ℕ, List, [], get_or, Some, slice_get}
use Rattle.weighted_relations.specs.declared.Arc.{Arc}
use Rattle.weighted_relations.specs.Machines.{Machine}

-- one pair of an input and an output label before another
abbrev pub Before : ℕ → ℕ → ℕ → ℕ → Type 0
Before i o j q = (i < j) ⊎ ((i ≡ j) × (o < q))

-- the arcs stand in the order of their labels, and no two have the same ones
pub record IsOrdered (row : List Arc) : Type 0 where
  pub before : (j k : ℕ) (a b : Arc) → j < k → slice_get row j ≡ Some a → slice_get row k ≡ Some b → Before a.input a.output b.input b.output

-- those of each state do
abbrev pub AreOrdered : Machine → Type 0
AreOrdered m = (s : ℕ) → IsOrdered (get_or m.arcs s [])
