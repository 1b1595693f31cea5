-- The states that arcs lead to.
use Rattle.std.specs.Prelude.{◌≡◌, ◌↔◌, ◌⊎◌, ◌+◌, ◌<◌, ℕ, List, [], ◌∷◌, ◌++◌, length, get_or, Bool, true, false, Some, slice_get, ⊤}
use Rattle.std.specs.List.{Contains}
use Rattle.weighted_relations.specs.declared.Arc.{Arc}
use Rattle.weighted_relations.specs.Machines.{Machine, IsArc}
use Rattle.fst_core.specs.declared.search.Follow.{Follow}
use Rattle.fst_core.specs.declared.search.Follow.TheVariants.{Every, EmptyInput}

-- the arc is one of those that are followed
abbrev pub IsFollowed : Follow → Arc → Type 0
IsFollowed Every a = ⊤
IsFollowed EmptyInput a = a.input ≡ 0

-- arcs that are followed lead from one state to another
pub data Leads (m : Machine) (which : Follow) : ℕ → ℕ → Type 0 where
  here : {s : ℕ} → Leads m which s s
  on : {s t : ℕ} (k : ℕ) (a : Arc) → Leads m which s t → IsArc m.arcs t k a → IsFollowed which a → Leads m which s a.next

-- the states that were found among so many, each once, in the order in which they were found
pub record Found : Type 0 where
  pub size : ℕ
  pub states : List ℕ

-- what one of these states leads to
pub record LedTo (m : Machine) (which : Follow) (seeds : List ℕ) (t : ℕ) : Type 0 where
  pub seed : ℕ
  pub is : Contains seeds seed
  pub leads : Leads m which seed t

-- the state is found, if it was not yet
abbrev pub Added : Found → ℕ → Found → Type 0
Added old s new = (Contains old.states s × (new ≡ old)) ⊎ ((Contains old.states s → ⊥) × (new ≡ record { size = old.size; states = old.states ++ s ∷ [] }))

-- what the first k arcs of a state lead to is found, and no more
pub record FollowedTo (m : Machine) (which : Follow) (old : Found) (s k : ℕ) (new : Found) : Type 0 where
  pub same_size : new.size ≡ old.size
  pub more : List ℕ
  pub grown : new.states ≡ old.states ++ more
  pub only : (t : ℕ) → Contains more t → (j : ℕ) × (a : Arc) × IsArc m.arcs s j a × IsFollowed which a × (a.next ≡ t)
  pub all : (j : ℕ) (a : Arc) → j < k → IsArc m.arcs s j a → IsFollowed which a → Contains new.states a.next

-- what the arcs of the first k states lead to is found
pub record RunTo (m : Machine) (which : Follow) (old : Found) (k : ℕ) (new : Found) : Type 0 where
  pub same_size : new.size ≡ old.size
  pub kept : (t : ℕ) → Contains old.states t → Contains new.states t
  pub only : (t : ℕ) → Contains new.states t → LedTo m which old.states t
  pub all : (i s j : ℕ) (a : Arc) → i < k → slice_get new.states i ≡ Some s → IsArc m.arcs s j a → IsFollowed which a → Contains new.states a.next

-- what arcs lead to from the start
pub record Reached (m : Machine) (which : Follow) (f : Found) : Type 0 where
  pub count : f.size ≡ length m.arcs
  pub states : (t : ℕ) → Contains f.states t ↔ Leads m which m.start t

-- how many marks are not set
abbrev pub unmarked : List Bool → ℕ
unmarked [] = 0
unmarked (true ∷ marks) = unmarked marks
unmarked (false ∷ marks) = 1 + unmarked marks

-- exactly the states that were found are marked
pub record Marked (marks : List Bool) (states : List ℕ) : Type 0 where
  pub found : (s : ℕ) → get_or marks s false ≡ true → Contains states s
  pub marked : (s : ℕ) → Contains states s → get_or marks s false ≡ true
  pub count : unmarked marks + length states ≡ length marks
