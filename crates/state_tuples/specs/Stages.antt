-- The moves of the first parts of a cascade as arcs, and how those of one part more come of them.
-- Stage k is that of the first k + 1 parts, and part k + 1 joins them. A place is a part's, counted from 0.
use Rattle.std.specs.Prelude.{ℕ, suc, Bool, true, List, [], ◌∷◌, map, set, get_or, nat_eq, Option, Some, None, if◌then◌else◌}
use Rattle.std.specs.List.{filter, filter_map}
use Rattle.weighted_relations.specs.declared.Arc.{Arc}
use Rattle.compose_filter.specs.declared.filters.Filter.{Filter}
use Rattle.compose_filter.specs.declared.filters.Filter.TheVariants.{Closed}
use Rattle.compose_filter.specs.declared.filters.Taken.{Taken}
use Rattle.compose_filter.specs.declared.steps.Step.{Step}
use Rattle.compose_filter.specs.Steps.{both_step, first_step, second_step, both_steps}
use Rattle.state_tuples.specs.declared.tuples.Tuple.{Tuple}
use Rattle.state_tuples.specs.declared.tuples.TupleArc.{TupleArc}
use Rattle.state_tuples.specs.declared.joins.TuplePlace.{TuplePlace}
use Rattle.state_tuples.specs.declared.joins.Asked.{Asked}
use Rattle.state_tuples.specs.declared.joins.Asked.TheVariants.{Every, Only}
use Rattle.state_tuples.specs.Positions.{back, bits, filters_of, padded}
use Rattle.compose_filter.specs.Expansions.{expansion}
use Rattle.state_tuples.specs.Cascades.{Cascaded, no_part, tuple_arc}

-- whether a move that reads this label is asked for
abbrev pub asks : Asked → ℕ → Bool
asks Every input = true
asks (Only label) input = nat_eq input label

-- the moves of the first k + 1 parts that are asked for
unfoldable pub stage : Cascaded → Tuple → Asked → ℕ → List TupleArc
stage c t asked k = filter (λ a. asks asked a.input) (map tuple_arc (expansion (back no_part c.parts (suc k)) (back 0 t.states (suc k)) (filters_of t.filters k)))

-- the arcs of the part at a place, in its present state
abbrev pub row_of : Cascaded → Tuple → ℕ → List Arc
row_of c t place = get_or (get_or c.parts place no_part).arcs (get_or t.states place 0) []

-- a move of the first part
abbrev pub alone_arc : Asked → Arc → Option TupleArc
alone_arc asked y = if asks asked y.input then Some (record { input = y.input; output = y.output; weight = y.weight; filters = 0; states = padded (y.next ∷ []) }) else None

-- where an arc leads
abbrev pub arc_step : TupleArc → Step TuplePlace
arc_step x = record { input = x.input; output = x.output; weight = x.weight; next = record { states = x.states; filters = x.filters } }

abbrev pub arc_of : Step TuplePlace → TupleArc
arc_of s = record { input = s.input; output = s.output; weight = s.weight; filters = s.next.filters; states = s.next.states }

-- the part at the place is in the state q; the filters are those of the place before
abbrev pub put_state : ℕ → TuplePlace → ℕ → Filter → Taken → TuplePlace
put_state place p q f t = record { states = set p.states place q; filters = p.filters }

-- the parts before and the one at the place move, where it reads what they write
abbrev pub joined : ℕ → TupleArc → Arc → Option TupleArc
joined place = both_step arc_step (put_state place) arc_of

-- the parts before move and write nothing, and the one at the place stays
abbrev pub stayed : ℕ → ℕ → Filter → TupleArc → Option TupleArc
stayed place = first_step arc_step (put_state place) arc_of

-- the part at the place moves and reads nothing, and those before it stay
abbrev pub entered : ℕ → TuplePlace → Arc → Option TupleArc
entered place = second_step arc_step (put_state place) arc_of

-- where the first k + 1 parts are, with the filter after them closed
abbrev pub entering : Tuple → ℕ → TuplePlace
entering t k = record { states = padded (back 0 t.states (suc k)); filters = bits (Closed ∷ filters_of t.filters k) }

abbrev pub all_joined : ℕ → List TupleArc → List Arc → List TupleArc
all_joined place = both_steps arc_step (put_state place) arc_of

-- those that enter read nothing
abbrev pub all_entered : Asked → ℕ → TuplePlace → List Arc → List TupleArc
all_entered asked place at row = if asks asked 0 then filter_map (entered place at) row else []
