-- A search makes a call for each label on the way to a node, and one before it meets the end.
use Rattle.std.specs.Prelude.{◌≡◌, ◌⊎◌, ℕ, ◌+◌, ◌-◌, List, Option, Some, slice_get, length}
use Rattle.weighted_relations.specs.declared.Arc.{Arc}
use Rattle.weighted_relations.specs.Machines.{Machine, From, IsArc, final_of}
use Rattle.weighted_relations.specs.Relations.{IsInput}
use Rattle.state_tuples.specs.declared.tuples.Tuple.{Tuple}
use Rattle.least_path.specs.declared.node.Node.{Node}
use Rattle.least_path.specs.declared.node.Node.TheVariants.{At, End}
use Rattle.least_path.specs.Counting.{HasRisen}

-- Where each input has at least n labels: a call was made for each of them that is not left to read at the node; and one more at the end.
abbrev pub IsPaid : Machine → ℕ → Option ℕ → Option ℕ → Node → Type 0
IsPaid m n first now End = HasRisen (n + 1) first now
IsPaid m n first now (At q t) = (x : List ℕ) → IsInput (From m q) x → HasRisen (n - length x) first now

abbrev pub ArePaid : Machine → ℕ → Option ℕ → Option ℕ → List Node → Type 0
ArePaid m n first now nodes = (k : ℕ) (v : Node) → slice_get nodes k ≡ Some v → IsPaid m n first now v

-- Calls on the way from a node pay for the nodes that come by them.
pub record Pays (m : Machine) (from : Node) (before after : Option ℕ) (old new : List Node) : Type 0 where
  pub risen : HasRisen 0 before after
  pub nodes : (n : ℕ) (first : Option ℕ) → IsPaid m n first before from → ArePaid m n first before old → ArePaid m n first after new

-- so on the way along an arc of the source, from whichever state it leads
abbrev pub PaysAlong : Arc → Tuple → Option ℕ → Option ℕ → List Node → List Node → Type 0
PaysAlong a t before after old new = (m : Machine) (q place : ℕ) → IsArc m.arcs q place a → Pays m (At q t) before after old new

-- so on the way to the end, from whichever state has this final weight
abbrev pub PaysToEnd : Option ℕ → Tuple → Option ℕ → Option ℕ → List Node → List Node → Type 0
PaysToEnd last t before after old new = (m : Machine) (q : ℕ) → last ≡ final_of m.finals q → Pays m (At q t) before after old new

-- each new node is one of these
abbrev pub Adds : (Node → Type 0) → List Node → List Node → Type 0
Adds D old new = (k : ℕ) (v : Node) → slice_get new k ≡ Some v → (slice_get old k ≡ Some v) ⊎ D v

-- a node at this state of the source
abbrev pub IsAt : ℕ → Node → Type 0
IsAt q End = ⊥
IsAt q (At r t) = r ≡ q
