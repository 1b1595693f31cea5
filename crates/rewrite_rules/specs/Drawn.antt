-- Arcs of moves, whose places are numbered, and the transducer that is built of them.
use Rattle.std.specs.Prelude.{◌≡◌, ◌≤◌, ◌<◌, ◌⊎◌, ◌↔◌, ℕ, List, [], length, get_or, Some, None, slice_get}
use Rattle.weighted_relations.specs.declared.Arc.{Arc}
use Rattle.weighted_relations.specs.Machines.{Machine}
use Rattle.fst_core.specs.States.{States}
use Rattle.rewrite_rules.specs.Bimachine.{Parts, Moves, Ends}
use Rattle.state_table.specs.Numbers.{Keeps}
use Rattle.rewrite_rules.specs.PartsOf.{parts, InRange}
use Rattle.rewrite_rules.specs.Steps.{IsMove}
use Rattle.rewrite_rules.specs.declared.arcs.Step.{Step}
use Rattle.rewrite_rules.specs.declared.automata.Automata.{Automata}
use Rattle.rewrite_rules.specs.declared.spots.Spot.{Spot}
use Rattle.rewrite_rules.specs.declared.spots.Spot.TheVariants.{Hub}

-- the arc of a move
pub record IsArcOf (spots : List Spot) (x : Step) (a : Arc) : Type 0 where
  pub input : a.input ≡ x.input
  pub output : a.output ≡ x.output
  pub weight : a.weight ≡ x.weight
  pub within : a.next < length spots
  pub next : get_or spots a.next Hub ≡ x.to

-- a row has the arcs that it had, and those of the moves of which P holds
pub record Draws (P : Step → Type 0) (old new : List Spot) (row more : List Arc) : Type 0 where
  pub keeps : Keeps old new
  pub kept : (k : ℕ) (a : Arc) → slice_get row k ≡ Some a → slice_get more k ≡ Some a
  pub sound : (k : ℕ) (a : Arc) → slice_get more k ≡ Some a → (slice_get row k ≡ Some a) ⊎ ((x : Step) × P x × IsArcOf new x a)
  pub full : (x : Step) → P x → (k : ℕ) × (a : Arc) × (slice_get more k ≡ Some a) × IsArcOf new x a
  pub only : (k : ℕ) → length old ≤ k → k < length new → (x : Step) × P x × (get_or new k Hub ≡ x.to)

-- the arcs of a place
pub record RowOf (p : Parts) (spots : List Spot) (s : Spot) (row : List Arc) : Type 0 where
  pub sound : (k : ℕ) (a : Arc) → slice_get row k ≡ Some a → (a.next < length spots) × Moves p s a.input a.output a.weight (get_or spots a.next Hub)
  pub full : (x : Step) → IsMove p s x → (k : ℕ) × (a : Arc) × (slice_get row k ≡ Some a) × IsArcOf spots x a

-- the states of the first places
pub record Built (m : Machine) (t : Automata) (spots : List Spot) (b : States) : Type 0 where
  pub even : length b.finals ≡ length b.arcs
  pub some : length b.arcs ≤ length spots
  pub ranged : (k : ℕ) → k < length spots → InRange m t (get_or spots k Hub)
  pub rows : (k : ℕ) → k < length b.arcs → RowOf (parts m t) spots (get_or spots k Hub) (get_or b.arcs k [])
  pub ends : (k w : ℕ) → k < length b.arcs → (get_or b.finals k None ≡ Some w) ↔ Ends (parts m t) (get_or spots k Hub) w
