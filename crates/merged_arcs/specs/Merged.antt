-- A transducer whose states are numbers of sets of another's states.
use Rattle.std.specs.Prelude.{◌≡◌, ◌≢◌, ◌⊎◌, ◌↔◌, ℕ, ◌<◌, ◌≤◌, List, [], ◌∷◌, Option, Some, length, get_or, slice_get}
use Rattle.std.specs.List.{Contains}
use Rattle.std.specs.List.Sorted.{IsStrictlyIncreasing}
use Rattle.weighted_relations.specs.declared.Arc.{Arc}
use Rattle.weighted_relations.specs.Machines.{Machine, final_of}
use Rattle.state_table.specs.Numbers.{Distinct, Keeps}
use Rattle.merged_arcs.specs.declared.apart.Saying.{Saying}

-- two final weights that differ
pub record Differ (one other : Option ℕ) : Type 0 where
  pub first : ℕ
  pub second : ℕ
  pub is_first : one ≡ Some first
  pub is_second : other ≡ Some second
  pub differ : first ≢ second

-- arcs with the same labels and weight
pub record Alike (x y : Arc) : Type 0 where
  pub input : x.input ≡ y.input
  pub output : x.output ≡ y.output
  pub weight : x.weight ≡ y.weight

abbrev pub none : Arc
none = record { input = 0; output = 0; weight = 0; next = 0 }

-- an arc of one of these states
abbrev pub IsArcOf : Machine → List ℕ → Arc → Type 0
IsArcOf a set y = (s : ℕ) × Contains set s × Contains (get_or a.arcs s []) y

-- one of these arcs is like x and leads to t
pub record LeadsTo (arcs : Arc → Type 0) (x : Arc) (t : ℕ) : Type 0 where
  pub arc : Arc
  pub is : arcs arc
  pub alike : Alike x arc
  pub next : arc.next ≡ t

-- arcs of which those that are alike stand together
abbrev pub StandTogether : List Arc → Type 0
StandTogether arcs = (i j k : ℕ) → i ≤ j → j ≤ k → k < length arcs → Alike (get_or arcs i none) (get_or arcs k none) → Alike (get_or arcs i none) (get_or arcs j none)

-- no two of these arcs are alike
abbrev pub AllApart : List Arc → Type 0
AllApart row = (i j : ℕ) (x y : Arc) → slice_get row i ≡ Some x → slice_get row j ≡ Some y → Alike x y → i ≡ j

-- no two arcs of a state are alike
abbrev pub IsMerged : Machine → Type 0
IsMerged m = (s : ℕ) → AllApart (get_or m.arcs s [])

abbrev pub said : Arc → Saying
said x = record { input = x.input; output = x.output; weight = x.weight }

-- some path from s to t has arcs that are like these, one after the other
abbrev pub Leads : Machine → ℕ → List Arc → ℕ → Type 0
Leads a s [] t = s ≡ t
Leads a s (x ∷ word) t = (y : Arc) × Contains (get_or a.arcs s []) y × Alike x y × Leads a y.next word t

-- in order, the states that paths from the start with the same labels and weights lead to
pub record Reached (a : Machine) (set : List ℕ) : Type 0 where
  pub word : List Arc
  pub states : (t : ℕ) → Contains set t ↔ Leads a a.start word t
  pub order : IsStrictlyIncreasing set

-- there are more such sets of states than so many
pub record PassesLimit (a : Machine) (most : ℕ) : Type 0 where
  pub sets : List (List ℕ)
  pub distinct : Distinct sets
  pub reached : (i : ℕ) → i < length sets → Reached a (get_or sets i [])
  pub more : most < length sets

-- two of these states are final, with weights that differ
pub record TwoEnds (a : Machine) (states : ℕ → Type 0) : Type 0 where
  pub one : ℕ
  pub other : ℕ
  pub first : states one
  pub second : states other
  pub ends : Differ (final_of a.finals one) (final_of a.finals other)

-- paths with the same labels and weights lead to two final states, whose weights differ
pub record EndsDiffer (a : Machine) : Type 0 where
  pub word : List Arc
  pub ends : TwoEnds a (Leads a a.start word)

-- in order, the states to which the arcs lead that are like x
pub record Gathers (arcs : Arc → Type 0) (x : Arc) (set : List ℕ) : Type 0 where
  pub some : (y : Arc) × arcs y × Alike x y
  pub all : (t : ℕ) → Contains set t ↔ LeadsTo arcs x t
  pub order : IsStrictlyIncreasing set

-- what an arc between sets stands for: arcs that are like it, and lead to the states of its set
pub record Stands (arcs : Arc → Type 0) (sets : List (List ℕ)) (x : Arc) : Type 0 where
  pub within : x.next < length sets
  pub some : (y : Arc) × arcs y × Alike x y
  pub only : (t : ℕ) → Contains (get_or sets x.next []) t → LeadsTo arcs x t

-- an arc of the row stands for y
pub record StoodFor (sets : List (List ℕ)) (row : List Arc) (y : Arc) : Type 0 where
  pub arc : Arc
  pub is : Contains row arc
  pub alike : Alike arc y
  pub leads : Contains (get_or sets arc.next []) y.next

-- the arcs of the row stand for these arcs
pub record RowOf (arcs : Arc → Type 0) (sets : List (List ℕ)) (row : List Arc) : Type 0 where
  pub sound : (x : Arc) → Contains row x → Stands arcs sets x
  pub found : (y : Arc) → arcs y → StoodFor sets row y

-- the final weight that the final states of a set have in common
pub record EndOf (a : Machine) (set : List ℕ) (last : Option ℕ) : Type 0 where
  pub sound : (w : ℕ) → last ≡ Some w → (s : ℕ) × Contains set s × (final_of a.finals s ≡ Some w)
  pub found : (s w : ℕ) → Contains set s → final_of a.finals s ≡ Some w → last ≡ Some w

-- the final weight that two states have in common
pub record Joins (one other last : Option ℕ) : Type 0 where
  pub sound : (w : ℕ) → last ≡ Some w → (one ≡ Some w) ⊎ (other ≡ Some w)
  pub first : (w : ℕ) → one ≡ Some w → last ≡ Some w
  pub second : (w : ℕ) → other ≡ Some w → last ≡ Some w

-- from one place to another, the arcs are alike
pub record Run (arcs : List Arc) (from to : ℕ) : Type 0 where
  pub some : from < to
  pub within : to ≤ length arcs
  pub alike : (j : ℕ) → from ≤ j → j < to → Alike (get_or arcs from none) (get_or arcs j none)

-- an arc between two places leads to t
pub record TargetIn (arcs : List Arc) (from to t : ℕ) : Type 0 where
  pub place : ℕ
  pub after : from ≤ place
  pub before : place < to
  pub next : (get_or arcs place none).next ≡ t

-- the row stands for the arcs, and new sets are of states to which these lead
pub record RowMade (arcs : Arc → Type 0) (old new : List (List ℕ)) (row : List Arc) : Type 0 where
  pub keeps : Keeps old new
  pub stands : RowOf arcs new row
  pub only : (i : ℕ) → length old ≤ i → i < length new → (x : Arc) × Gathers arcs x (get_or new i [])

-- The states of m are the numbers of sets, and its arcs and final weights are those of their states.
pub record IsMerging (a m : Machine) : Type 0 where
  pub sets : List (List ℕ)
  pub within : m.start < length sets
  pub start : get_or sets m.start [] ≡ a.start ∷ []
  pub rows : (i : ℕ) → i < length sets → RowOf (IsArcOf a (get_or sets i [])) sets (get_or m.arcs i [])
  pub ends : (i : ℕ) → i < length sets → EndOf a (get_or sets i []) (final_of m.finals i)
