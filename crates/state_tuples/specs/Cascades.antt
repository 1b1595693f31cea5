-- Cascades as contracts see them, their tuples, and the graph of these.
use Rattle.std.specs.Prelude.{◌≡◌, ◌<◌, ◌≤◌, ℕ, ◌-◌, ◌^◌, List, [], map, get_or, length, Option, All}
use Rattle.weighted_relations.specs.Relations.{Cascade, Same}
use Rattle.weighted_relations.specs.Graphs.{Graph, GraphReads}
use Rattle.weighted_relations.specs.Machines.{Machine, WellFormed, Reads}
use Rattle.compose_filter.specs.ComposedPaths.{starts}
use Rattle.state_tuples.specs.declared.tuples.Tuple.{Tuple}
use Rattle.state_tuples.specs.declared.tuples.TupleArc.{TupleArc}
use Rattle.state_tuples.specs.Positions.{back, bits, filters_of, most_parts, padded}
use Rattle.compose_filter.specs.declared.steps.Step.{Step}
use Rattle.compose_filter.specs.Expansions.{Position, expansion, finality}

-- a number, and the parts from the first to the last
pub record Cascaded : Type 0 where
  pub number : ℕ
  pub parts : List Machine

-- what holds of each cascade
pub record IsSound (c : Cascaded) : Type 0 where
  pub some : 0 < length c.parts
  pub few : length c.parts ≤ most_parts
  pub parts : All WellFormed c.parts

abbrev pub no_part : Machine
no_part = record { start = 0; arcs = []; finals = [] }

-- the parts from the last to the first
abbrev pub backwards : Cascaded → List Machine
backwards c = back no_part c.parts (length c.parts)

-- The number agrees, the states are in range, those past the last part are 0, and there is a filter for each part but the first.
pub record IsOf (c : Cascaded) (t : Tuple) : Type 0 where
  pub number : t.cascade ≡ c.number
  pub width : length t.states ≡ most_parts
  pub states : (k : ℕ) → k < length c.parts → get_or t.states k 0 < length (get_or c.parts k no_part).arcs
  pub past : (k : ℕ) → length c.parts ≤ k → get_or t.states k 0 ≡ 0
  pub filters : t.filters < 2 ^ (length c.parts - 1)

-- where a tuple of the cascade is
abbrev pub position_of : Cascaded → Tuple → Position
position_of c t = record { states = back 0 t.states (length c.parts); filters = filters_of t.filters (length c.parts - 1) }

-- all parts start, and all filters are open
abbrev pub first_tuple : Cascaded → Tuple
first_tuple c = record { cascade = c.number; states = padded (starts (backwards c)); filters = 0 }

-- a move as an arc
abbrev pub tuple_arc : Step Position → TupleArc
tuple_arc s = record { input = s.input; output = s.output; weight = s.weight; filters = bits s.next.filters; states = padded s.next.states }

-- all moves from a tuple
abbrev pub moves_of : Cascaded → Tuple → List TupleArc
moves_of c t = map tuple_arc (expansion (backwards c) (position_of c t).states (position_of c t).filters)

-- the final weight of a tuple, where all parts have one
abbrev pub end_of : Cascaded → Tuple → Option ℕ
end_of c t = finality (backwards c) (position_of c t).states

-- where an arc leads
abbrev pub next_of : Tuple → TupleArc → Tuple
next_of t a = record { cascade = t.cascade; states = a.states; filters = a.filters }

abbrev pub tuple_graph : Cascaded → Graph Tuple TupleArc
tuple_graph c = record {
  start = first_tuple c;
  arcs = moves_of c;
  final = end_of c;
  input = λ a. a.input;
  output = λ a. a.output;
  weight = λ a. a.weight;
  next = next_of;
}

-- the paths over tuples have the readings of the parts, one after another
abbrev pub ReadsItsParts : Cascaded → Type 0
ReadsItsParts c = Same (GraphReads (tuple_graph c)) (Cascade Reads c.parts)
