-- Triples that are numbered while the transducer of their numbers is built.
use Rattle.std.specs.Prelude.{◌≡◌, ◌⊎◌, ◌<◌, ℕ, List, Some, length, slice_get, take}
use Rattle.weighted_relations.specs.declared.Arc.{Arc}
use Rattle.weighted_relations.specs.Machines.{Machine}
use Rattle.state_table.specs.Numbers.{Keeps}
use Rattle.compose_filter.specs.declared.filters.Move.{Move}
use Rattle.compose_filter.specs.declared.triples.Triple.{Triple}
use Rattle.compose_filter.specs.Compositions.{after, RowOf}

-- a triple to which one of the moves leads, by an arc of the row
pub record Arrived (found : List Move) (row : List Arc) (j : ℕ) (u : Triple) : Type 0 where
  pub from : ℕ
  pub move : Move
  pub is : slice_get found from ≡ Some move
  pub leads : u ≡ after move
  pub place : ℕ
  pub arc : Arc
  pub there : slice_get row place ≡ Some arc
  pub next : arc.next ≡ j

-- the first n moves with their arcs, and the triples that are new by them
pub record RowMade (old new : List Triple) (found : List Move) (n : ℕ) (row : List Arc) : Type 0 where
  pub arcs : RowOf new (take n found) row
  pub keeps : Keeps old new
  pub only : (j : ℕ) (u : Triple) → slice_get new j ≡ Some u → (slice_get old j ≡ Some u) ⊎ Arrived found row j u

-- a triple of two states
pub record InRange (a b : Machine) (t : Triple) : Type 0 where
  pub first : t.qa < length a.arcs
  pub second : t.qb < length b.arcs
