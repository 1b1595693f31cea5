-- The composition of two transducers: its states are triples of two states and a filter.
use Rattle.std.specs.Prelude.{◌≡◌, ℕ, ◌+◌, ◌<◌, List, [], ◌∷◌, Option, Some, None, length, get_or, slice_get, IsPermutation}
use Rattle.weighted_relations.specs.declared.Arc.{Arc}
use Rattle.weighted_relations.specs.Machines.{Machine, final_of}
use Rattle.fst_core.specs.declared.search.Follow.TheVariants.{Every}
use Rattle.fst_core.specs.Reach.{Leads}
use Rattle.state_table.specs.Numbers.{Distinct}
use Rattle.compose_filter.specs.declared.filters.Filter.{Filter}
use Rattle.compose_filter.specs.declared.filters.Filter.TheVariants.{Open}
use Rattle.compose_filter.specs.declared.filters.Move.{Move}
use Rattle.compose_filter.specs.declared.triples.Triple.{Triple}
use Rattle.compose_filter.specs.Combinations.{combinations}

-- the states and the filter, the last transducer first
abbrev pub states : Triple → List ℕ
states t = t.qb ∷ t.qa ∷ []

abbrev pub filters : Triple → List Filter
filters t = t.filter ∷ []

-- where a move leads
abbrev pub after : Move → Triple
after m = record { qa = m.qa; qb = m.qb; filter = m.filter }

-- both start, and the filter is open
abbrev pub first_triple : Machine → Machine → Triple
first_triple a b = record { qa = a.start; qb = b.start; filter = Open }

-- the moves from a triple
abbrev pub moves_from : Machine → Machine → Triple → List Move
moves_from a b t = combinations (get_or a.arcs t.qa []) t.qa (get_or b.arcs t.qb []) t.qb t.filter

-- the sum of two final weights, where there are both
abbrev pub both_final : Option ℕ → Option ℕ → Option ℕ
both_final (Some w) (Some v) = Some (w + v)
both_final (Some w) None = None
both_final None last = None

abbrev pub end_of : Machine → Machine → Triple → Option ℕ
end_of a b t = both_final (final_of a.finals t.qa) (final_of b.finals t.qb)

-- an arc that stands for a move
pub record Stands (keys : List Triple) (m : Move) (x : Arc) : Type 0 where
  pub input : x.input ≡ m.input
  pub output : x.output ≡ m.output
  pub weight : x.weight ≡ m.weight
  pub next : slice_get keys x.next ≡ Some (after m)

-- each move has its arc, in order
pub record RowOf (keys : List Triple) (ms : List Move) (row : List Arc) : Type 0 where
  pub count : length row ≡ length ms
  pub each : (k : ℕ) (m : Move) (x : Arc) → slice_get ms k ≡ Some m → slice_get row k ≡ Some x → Stands keys m x

-- each move of the triple has its arc
pub record RowAt (a b : Machine) (keys : List Triple) (t : Triple) (row : List Arc) : Type 0 where
  pub moves : List Move
  pub all : IsPermutation (moves_from a b t) moves
  pub arcs : RowOf keys moves row

-- The states of m are the numbers of the triples to which moves lead from the first one, one to one. Their arcs are the
-- moves of the triples, and their final weights those of the triples.
pub record IsComposition (a b m : Machine) : Type 0 where
  pub keys : List Triple
  pub distinct : Distinct keys
  pub count : length m.arcs ≡ length keys
  pub start : slice_get keys m.start ≡ Some (first_triple a b)
  pub rows : (s : ℕ) (t : Triple) → slice_get keys s ≡ Some t → RowAt a b keys t (get_or m.arcs s [])
  pub ends : (s : ℕ) (t : Triple) → slice_get keys s ≡ Some t → final_of m.finals s ≡ end_of a b t
  pub reached : (s : ℕ) → s < length keys → Leads m Every m.start s
