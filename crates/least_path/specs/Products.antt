-- A search over the inputs of a transducer and a graph together.
use Rattle.std.specs.Prelude.{◌≡◌, ◌⊎◌, ℕ, zero, suc, List, [], Option, Some, None, slice_get}
use Rattle.weighted_relations.specs.declared.Arc.{Arc}
use Rattle.weighted_relations.specs.Graphs.{Graph, GraphFrom, label}
use Rattle.weighted_relations.specs.Machines.{Machine, From, IsArc, final_of}
use Rattle.weighted_relations.specs.Relations.{IsInput}
use Rattle.weighted_relations.specs.Searches.{Edges}

-- a state of the source and a node of the graph; or the end
abbrev pub Joint : Type 0 → Type 0
Joint A = Option (ℕ × A)

-- the source goes on alone, by an arc with no input
pub record Silent {A : Type 0} (m : Machine) (q : ℕ) (t : A) (r : ℕ) (v : A) (u : ℕ) (z : List ℕ) : Type 0 where
  pub place : ℕ
  pub arc : Arc
  pub is : IsArc m.arcs q place arc
  pub input : arc.input ≡ 0
  pub state : r ≡ arc.next
  pub node : v ≡ t
  pub weight : u ≡ 0
  pub output : z ≡ []

-- where the source may be after an input of the graph
abbrev pub Follows : Machine → ℕ → ℕ → ℕ → Type 0
Follows m q zero r = r ≡ q
Follows m q (suc n) r = (k : ℕ) × (a : Arc) × IsArc m.arcs q k a × (a.input ≡ suc n) × (r ≡ a.next)

-- an arc of the graph, with the source along
pub record Moves {A B : Type 0} (m : Machine) (g : Graph A B) (q : ℕ) (t : A) (r : ℕ) (v : A) (u : ℕ) (z : List ℕ) : Type 0 where
  pub place : ℕ
  pub arc : B
  pub is : slice_get (g.arcs t) place ≡ Some arc
  pub source : Follows m q (g.input arc) r
  pub node : v ≡ g.next t arc
  pub weight : u ≡ g.weight arc
  pub output : z ≡ label (g.output arc) []

-- both are at an end
pub record Ends {A B : Type 0} (m : Machine) (g : Graph A B) (q : ℕ) (t : A) (u : ℕ) (z : List ℕ) : Type 0 where
  pub last : ℕ
  pub source : final_of m.finals q ≡ Some last
  pub node : g.final t ≡ Some u
  pub output : z ≡ []

abbrev pub Together : {A B : Type 0} → Machine → Graph A B → Edges (Joint A)
Together m g None n u z = ⊥
Together m g (Some p) None u z = Ends m g p.0 p.1 u z
Together m g (Some p) (Some o) u z = Silent m p.0 p.1 o.0 o.1 u z ⊎ Moves m g p.0 p.1 o.0 o.1 u z

-- a reading of the graph from a node, at an input of the source from a state
pub record ReadsAlong {A B : Type 0} (m : Machine) (g : Graph A B) (q : ℕ) (t : A) (y : List ℕ) (w : ℕ) : Type 0 where
  pub input : List ℕ
  pub accepts : IsInput (From m q) input
  pub reads : GraphFrom g t input y w
