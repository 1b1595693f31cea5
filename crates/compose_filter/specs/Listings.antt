-- The list of moves has each combination of the law once.
use Rattle.std.specs.Prelude.{◌≡◌, ℕ, suc, List, [], ◌∷◌, Some, slice_get, length}
use Rattle.weighted_relations.specs.Machines.{Machine}
use Rattle.compose_filter.specs.declared.filters.Filter.{Filter}
use Rattle.compose_filter.specs.declared.filters.Move.{Move}
use Rattle.compose_filter.specs.ComposedPaths.{Combination, IsMove}
use Rattle.compose_filter.specs.declared.steps.Step.{Step}
use Rattle.compose_filter.specs.Expansions.{Position, expansion}

-- as many states as parts, and one filter less
pub record IsPlace (ms : List Machine) (qs : List ℕ) (fs : List Filter) : Type 0 where
  pub states : length qs ≡ length ms
  pub filters : length ms ≡ suc (length fs)

-- Beside the list of moves stands a list of combinations: each has the move at its place, each that moves has a place,
-- and no two places have the same.
pub record Listed (ms : List Machine) (qs : List ℕ) (fs : List Filter) : Type 0 where
  pub combinations : List Combination
  pub count : length combinations ≡ length (expansion ms qs fs)
  pub moves : (k : ℕ) (c : Combination) (s : Step Position) → slice_get combinations k ≡ Some c → slice_get (expansion ms qs fs) k ≡ Some s → IsMove ms qs fs c s.input s.output s.weight s.next.states s.next.filters
  pub found : (c : Combination) (i o w : ℕ) (rs : List ℕ) (gs : List Filter) → IsMove ms qs fs c i o w rs gs → (k : ℕ) × (slice_get combinations k ≡ Some c)
  pub alone : (j k : ℕ) (c : Combination) → slice_get combinations j ≡ Some c → slice_get combinations k ≡ Some c → j ≡ k

-- a move of two transducers as a step of two parts
abbrev pub step_of : Move → Step Position
step_of m = record { input = m.input; output = m.output; weight = m.weight; next = record { states = m.qb ∷ m.qa ∷ []; filters = m.filter ∷ [] } }
