-- All texts of labels.
use Rattle.std.specs.Prelude.{◌≡◌, ◌≤◌, ◌<◌, ℕ, List, All, Some, slice_get}
use Rattle.weighted_relations.specs.declared.Arc.{Arc}
use Rattle.weighted_relations.specs.Relations.{IsLabel}

-- each string of labels, as it is
pub record AnyText (x y : List ℕ) (w : ℕ) : Type 0 where
  pub labels : All IsLabel x
  pub output : y ≡ x
  pub weight : w ≡ 0

-- an arc that reads and writes a label, and stays
abbrev pub loop : ℕ → Arc
loop c = record { input = c; output = c; weight = 0; next = 0 }

-- the loops of the labels below n
pub record Loops (n : ℕ) (row : List Arc) : Type 0 where
  pub sound : (k : ℕ) (a : Arc) → slice_get row k ≡ Some a → (c : ℕ) × (1 ≤ c) × (c < n) × (a ≡ loop c)
  pub full : (c : ℕ) → 1 ≤ c → c < n → (k : ℕ) × (slice_get row k ≡ Some (loop c))
