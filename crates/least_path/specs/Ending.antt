-- Which nodes lead on to the end.
use Rattle.std.specs.Prelude.{◌≡◌, ℕ, List, Contains}
use Rattle.weighted_relations.specs.declared.Arc.{Arc}
use Rattle.weighted_relations.specs.Machines.{Machine}
use Rattle.state_tuples.specs.declared.tuples.Tuple.{Tuple}
use Rattle.state_tuples.specs.Cascades.{Cascaded, tuple_graph}
use Rattle.state_tuples.specs.Calls.{CannotRead}
use Rattle.least_path.specs.declared.node.Node.{Node}
use Rattle.least_path.specs.declared.node.Node.TheVariants.{At, End}
use Rattle.least_path.specs.Products.{ReadsAlong}

-- the node is the end, or something is read from it on to the end
abbrev pub CanEnd : Machine → Cascaded → Node → Type 0
CanEnd m c End = Unit {0}
CanEnd m c (At q t) = (y : List ℕ) × (w : ℕ) × ReadsAlong m (tuple_graph c) q t y w

-- in the cascade that the tuple's number names, the node doesn't lead to the end
abbrev pub IsDead : Machine → List Cascaded → ℕ → Tuple → Type 0
IsDead m cs q t = (c : Cascaded) → Contains cs c → t.cascade ≡ c.number → CanEnd m c (At q t) → ⊥

-- any node
abbrev pub Every : Node → Type 0
Every n = Unit {0}

-- an arc of the source reads, and the tuple can't read its label next
abbrev pub IsRefused : List Cascaded → Tuple → Arc → Type 0
IsRefused cs t a = (a.input ≡ 0 → ⊥) × CannotRead cs t a.input
