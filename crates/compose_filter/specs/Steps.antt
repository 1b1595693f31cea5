-- The step of two: what stands on the left moves together with one part more.
use Rattle.std.specs.Prelude.{◌==◌, ◌&&◌, not, ℕ, ◌+◌, List, ◌++◌, Option, Some, None, if◌then◌else◌}
use Rattle.std.specs.List.{flat_map, filter_map}
use Rattle.weighted_relations.specs.declared.Arc.{Arc}
use Rattle.compose_filter.specs.declared.filters.Filter.{Filter}
use Rattle.compose_filter.specs.declared.filters.Filter.TheVariants.{Open, Closed}
use Rattle.compose_filter.specs.declared.filters.Taken.{Taken}
use Rattle.compose_filter.specs.declared.filters.Taken.TheVariants.{Both, First, Second}
use Rattle.compose_filter.specs.declared.steps.Step.{Step}

-- Each move on the left is a step, and of each step of both a move is made. Pair says where both are: the place of the left, the
-- state of the part, the filter between them, and which of the two has moved.
module _ {X A B Y : Type 0} (step : X → Step A) (pair : A → ℕ → Filter → Taken → B) (made : Step B → Y) where
  -- both move, where the first writes the label that the second reads
  abbrev pub both_step : X → Arc → Option Y
  both_step x y = if not ((step x).output == 0) && ((step x).output == y.input) then Some (made (record { input = (step x).input; output = y.output; weight = (step x).weight + y.weight; next = pair (step x).next y.next Open Both })) else None

  -- the first moves alone, where it writes nothing and the filter is open
  abbrev pub first_step : ℕ → Filter → X → Option Y
  first_step q Open x = if (step x).output == 0 then Some (made (record { input = (step x).input; output = 0; weight = (step x).weight; next = pair (step x).next q Open First })) else None
  first_step q Closed x = None

  -- the second moves alone, where it reads nothing
  abbrev pub second_step : A → Arc → Option Y
  second_step at y = if y.input == 0 then Some (made (record { input = 0; output = y.output; weight = y.weight; next = pair at y.next Closed Second })) else None

  -- each move on the left with each arc of the part
  abbrev pub both_steps : List X → List Arc → List Y
  both_steps left row = flat_map (λ x. filter_map (both_step x) row) left

  -- all moves, by those on the left from its place, and the arcs of the part at its state q
  abbrev pub together : List X → A → List Arc → ℕ → Filter → List Y
  together left at row q f = both_steps left row ++ filter_map (first_step q f) left ++ filter_map (second_step at) row
