-- Arcs turned round.
use Rattle.std.specs.Prelude.{◌≡◌, ◌⊎◌, ℕ, ◌<◌, List, [], length, get_or, Some, slice_get}
use Rattle.weighted_relations.specs.declared.Arc.{Arc}
use Rattle.weighted_relations.specs.Machines.{Machine, IsArc, final_of}
use Rattle.fst_core.specs.Placed.{empty_arc}
use Rattle.fst_core.specs.States.{States}

-- the arc back to s
abbrev pub turned : ℕ → Arc → Arc
turned s a = record { input = a.input; output = a.output; weight = a.weight; next = s }

-- an arc of a row
abbrev pub InRow : List Arc → Arc → Type 0
InRow row b = (j : ℕ) × (slice_get row j ≡ Some b)

-- an arc of p of which b is the arc back
pub record Source (p : Machine) (t : ℕ) (b : Arc) : Type 0 where
  pub place : ℕ
  pub arc : Arc
  pub there : IsArc p.arcs b.next place arc
  pub next : arc.next ≡ t
  pub is : b ≡ turned b.next arc

-- the arcs of p that are done are turned round here, and no others
pub record TurnedArcs (p : Machine) (done : ℕ → ℕ → Type 0) (rows : List (List Arc)) : Type 0 where
  pub count : length rows ≡ length p.arcs
  pub all : (s i : ℕ) (a : Arc) → done s i → IsArc p.arcs s i a → InRow (get_or rows a.next []) (turned s a)
  pub only : (t j : ℕ) (b : Arc) → IsArc rows t j b → Source p t b

-- each of the first n states
abbrev pub Below : ℕ → ℕ → ℕ → Type 0
Below k s i = s < k

-- the first i arcs of s too
abbrev pub BelowAt : ℕ → ℕ → ℕ → ℕ → Type 0
BelowAt k j s i = (s < k) ⊎ ((s ≡ k) × (i < j))

-- empty arcs to the final states below k
pub record HubRow (p : Machine) (k : ℕ) (row : List Arc) : Type 0 where
  pub all : (s w : ℕ) → s < k → final_of p.finals s ≡ Some w → InRow row (empty_arc w s)
  pub only : (j : ℕ) (b : Arc) → slice_get row j ≡ Some b → (s : ℕ) × (w : ℕ) × (final_of p.finals s ≡ Some w) × (b ≡ empty_arc w s)

-- n states with no arcs, of which this one is final
pub record OneFinal (at n : ℕ) (b : States) : Type 0 where
  pub count : length b.finals ≡ n
  pub rows : length b.arcs ≡ n
  pub none : (s j : ℕ) (a : Arc) → IsArc b.arcs s j a → ⊥
  pub is : at < n → final_of b.finals at ≡ Some 0
  pub only : (s w : ℕ) → final_of b.finals s ≡ Some w → (s ≡ at) × (w ≡ 0)
