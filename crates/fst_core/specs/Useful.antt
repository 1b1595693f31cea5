-- Some states of a transducer, numbered anew.
use Rattle.std.specs.Prelude.{◌≡◌, ◌↔◌, ◌⊎◌, ◌<◌, ◌+◌, ℕ, zero, suc, List, [], ◌∷◌, length, get_or, Bool, true, false, Option, Some, None, slice_get, if◌then◌else◌}
use Rattle.std.specs.List.{Contains, filter_map}
use Rattle.weighted_relations.specs.declared.Arc.{Arc}
use Rattle.weighted_relations.specs.Machines.{Machine, From, final_of}
use Rattle.fst_core.specs.declared.search.Follow.TheVariants.{Every}
use Rattle.fst_core.specs.Reach.{Leads}
use Rattle.fst_core.specs.States.{States}

-- some path leads from the state to a final one
abbrev pub IsAlive : Machine → ℕ → Type 0
IsAlive m s = (x : List ℕ) × (y : List ℕ) × (w : ℕ) × From m s x y w

-- some path from the start to a final state goes through the state
abbrev pub IsUseful : Machine → ℕ → Type 0
IsUseful m s = Leads m Every m.start s × IsAlive m s

-- each state but the start is useful
abbrev pub IsTrimmed : Machine → Type 0
IsTrimmed m = (s : ℕ) → s < length m.arcs → (s ≡ m.start) ⊎ IsUseful m s

-- the state is kept
abbrev pub IsKept : List Bool → ℕ → Type 0
IsKept keep s = get_or keep s false ≡ true

-- how many states before s are kept
abbrev pub rank : List Bool → ℕ → ℕ
rank [] s = 0
rank (b ∷ keep) zero = 0
rank (true ∷ keep) (suc s) = 1 + rank keep s
rank (false ∷ keep) (suc s) = rank keep s

-- an arc between kept states
abbrev pub renumbered : List Bool → Arc → Arc
renumbered keep a = record { input = a.input; output = a.output; weight = a.weight; next = rank keep a.next }

-- an arc to a kept state, with the number of this
abbrev pub to_kept : List Bool → Arc → Option Arc
to_kept keep a = if get_or keep a.next false then Some (renumbered keep a) else None

-- the kept states below s
pub record KeptTo (p : Machine) (keep : List Bool) (s : ℕ) (b : States) : Type 0 where
  pub count : length b.arcs ≡ rank keep s
  pub ends_count : length b.finals ≡ rank keep s
  pub rows : (t : ℕ) → t < s → IsKept keep t → get_or b.arcs (rank keep t) [] ≡ filter_map (to_kept keep) (get_or p.arcs t [])
  pub ends : (t : ℕ) → t < s → IsKept keep t → final_of b.finals (rank keep t) ≡ final_of p.finals t

-- exactly the kept states
pub record KeptStates (p : Machine) (keep : List Bool) (m : Machine) : Type 0 where
  pub start : m.start ≡ rank keep p.start
  pub states : KeptTo p keep (length p.arcs) (record { arcs = m.arcs; finals = m.finals })

-- the arcs of a row that lead to these states, in order, with the places of these as their numbers
pub data KeptRow (states : List ℕ) : List Arc → List Arc → Type 0 where
  nothing : KeptRow states [] []
  kept : {a : Arc} {i : ℕ} {row made : List Arc} → slice_get states i ≡ Some a.next → KeptRow states row made → KeptRow states (a ∷ row) (record { input = a.input; output = a.output; weight = a.weight; next = i } ∷ made)
  dropped : {a : Arc} {row made : List Arc} → (Contains states a.next → ⊥) → KeptRow states row made → KeptRow states (a ∷ row) made

-- The states of m are those of p that are useful, and its start, in their order; with their arcs to one another.
pub record IsTrimOf (p m : Machine) : Type 0 where
  pub states : List ℕ
  pub which : (s : ℕ) → Contains states s ↔ ((s ≡ p.start) ⊎ IsUseful p s)
  pub order : (i j s t : ℕ) → i < j → slice_get states i ≡ Some s → slice_get states j ≡ Some t → s < t
  pub count : length m.arcs ≡ length states
  pub start : slice_get states m.start ≡ Some p.start
  pub rows : (i s : ℕ) → slice_get states i ≡ Some s → KeptRow states (get_or p.arcs s []) (get_or m.arcs i [])
  pub ends : (i s : ℕ) → slice_get states i ≡ Some s → final_of m.finals i ≡ final_of p.finals s

-- the states old, and the final ones of the first k states
pub record FinalsFound (m : Machine) (k : ℕ) (old new : List ℕ) : Type 0 where
  pub all : (s w : ℕ) → s < k → final_of m.finals s ≡ Some w → Contains new s
  pub kept : (s : ℕ) → Contains old s → Contains new s
  pub only : (s : ℕ) → Contains new s → Contains old s ⊎ ((w : ℕ) × (final_of m.finals s ≡ Some w))
