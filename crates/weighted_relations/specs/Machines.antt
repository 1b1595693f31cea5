-- Transducers as contracts see them, as graphs over their states.
use Rattle.std.specs.Prelude.{◌≡◌, ℕ, ◌<◌, ◌≤◌, ◌^◌, List, [], length, get_or, Option, Some, None, slice_get}
use Rattle.weighted_relations.specs.Relations.{Relation}
use Rattle.weighted_relations.specs.Graphs.{Graph, GraphPath, GraphFrom}
use Rattle.weighted_relations.specs.declared.Arc.{Arc}

-- where it starts, each state's arcs, and each state's final weight
pub record Machine : Type 0 where
  pub start : ℕ
  pub arcs : List (List Arc)
  pub finals : List (Option ℕ)

-- the arc at a place of a state's list
abbrev pub IsArc : List (List Arc) → ℕ → ℕ → Arc → Type 0
IsArc arcs s i a = slice_get (get_or arcs s []) i ≡ Some a

-- a state's final weight
abbrev pub final_of : List (Option ℕ) → ℕ → Option ℕ
final_of finals s = get_or finals s None

abbrev pub graph : Machine → Graph ℕ Arc
graph m = record {
  start = m.start;
  arcs = λ s. get_or m.arcs s [];
  final = λ s. final_of m.finals s;
  input = λ a. a.input;
  output = λ a. a.output;
  weight = λ a. a.weight;
  next = λ s a. a.next;
}

-- a path from a state to a final one
abbrev pub Path : Machine → ℕ → List ℕ → List ℕ → List ℕ → ℕ → Type 0
Path m = GraphPath (graph m)

-- the readings of the paths from a state
abbrev pub From : Machine → ℕ → Relation
From m = GraphFrom (graph m)

-- the readings of the paths from the start
abbrev pub Reads : Machine → Relation
Reads m = From m m.start

-- an arc of a transducer with n states
pub record ArcFits (n : ℕ) (a : Arc) : Type 0 where
  pub input : a.input ≤ 257
  pub output : a.output ≤ 257
  pub weight : a.weight < 2 ^ 54
  pub next : a.next < n

-- what holds of each transducer
pub record WellFormed (m : Machine) : Type 0 where
  pub finals : length m.finals ≡ length m.arcs
  pub start : m.start < length m.arcs
  pub arcs : (s i : ℕ) (a : Arc) → IsArc m.arcs s i a → ArcFits (length m.arcs) a
  pub weights : (s w : ℕ) → final_of m.finals s ≡ Some w → w < 2 ^ 54
