-- The moves of any number of parts together, as lists. Parts, states and filters stand from the last part to the first.
use Rattle.std.specs.Prelude.{ℕ, List, [], ◌∷◌, map, get_or, Option, None}
use Rattle.weighted_relations.specs.declared.Arc.{Arc}
use Rattle.weighted_relations.specs.Machines.{Machine, final_of}
use Rattle.compose_filter.specs.declared.filters.Filter.{Filter}
use Rattle.compose_filter.specs.declared.filters.Taken.{Taken}
use Rattle.compose_filter.specs.Compositions.{both_final}
use Rattle.compose_filter.specs.declared.steps.Step.{Step}
use Rattle.compose_filter.specs.Steps.{together}

-- where the parts are: a state of each part and a filter before each part but the first
pub record Position : Type 0 where
  pub states : List ℕ
  pub filters : List Filter

-- a move of the only part
abbrev pub alone : Arc → Step Position
alone x = record { input = x.input; output = x.output; weight = x.weight; next = record { states = x.next ∷ []; filters = [] } }

-- one more part, which is in the state q with the filter f before it
abbrev pub with_part : Position → ℕ → Filter → Taken → Position
with_part p q f t = record { states = q ∷ p.states; filters = f ∷ p.filters }

-- a step as it is
abbrev pub as_is : {A : Type 0} → Step A → Step A
as_is s = s

-- The moves of the first part, or of the parts before the last one together with the last one.
abbrev pub expansion : List Machine → List ℕ → List Filter → List (Step Position)
expansion (m ∷ []) (q ∷ []) [] = map alone (get_or m.arcs q [])
expansion (m ∷ n ∷ ms) (q ∷ qs) (f ∷ fs) = together as_is with_part as_is (expansion (n ∷ ms) qs fs) (record { states = qs; filters = fs }) (get_or m.arcs q []) q f
expansion _ _ _ = []

-- the sum of the parts' final weights, where all have one
abbrev pub finality : List Machine → List ℕ → Option ℕ
finality (m ∷ []) (q ∷ []) = final_of m.finals q
finality (m ∷ n ∷ ms) (q ∷ qs) = both_final (finality (n ∷ ms) qs) (final_of m.finals q)
finality _ _ = None
