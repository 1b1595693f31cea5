-- Systems of moves, and what their runs read.
use Rattle.std.specs.Prelude.{ℕ, zero, suc, ◌+◌, List, []}
use Rattle.weighted_relations.specs.Graphs.{label}

-- places, moves with an input, an output and a weight, and ends with a weight
pub record System : Type 1 where
  pub Spot : Type 0
  pub Move : Spot → ℕ → ℕ → ℕ → Spot → Type 0
  pub End : Spot → ℕ → Type 0

-- what a run from a place reads
pub data Run (S : System) : S.Spot → List ℕ → List ℕ → ℕ → Type 0 where
  halt : {s : S.Spot} {w : ℕ} → S.End s w → Run S s [] [] w
  move : {s t : S.Spot} {i o v : ℕ} {x y : List ℕ} {w : ℕ} → S.Move s i o v t → Run S t x y w → Run S s (label i x) (label o y) (v + w)

-- a step by a label, or none by the empty label
abbrev pub moved : (ℕ → ℕ → ℕ) → ℕ → ℕ → ℕ
moved f q zero = q
moved f q (suc n) = f q (suc n)
