-- What the ways from a state read next, and sets of labels for the states.
use Rattle.std.specs.Prelude.{◌≡◌, ◌≤◌, ℕ, zero, suc, ◌+◌, Bool, true, List, [], ◌∷◌, Option, Some, None, get_or, slice_get, All}
use Rattle.weighted_relations.specs.Machines.{Machine, From, final_of}

-- the first of some labels, and 0 where there are none
abbrev pub first_label : List ℕ → ℕ
first_label [] = 0
first_label (l ∷ x) = l

-- some way from the state to an end reads this label next; with label 0, some way to an end reads nothing
pub record ReadsNext (m : Machine) (s label : ℕ) : Type 0 where
  pub input : List ℕ
  pub output : List ℕ
  pub weight : ℕ
  pub reads : From m s input output weight
  pub first : first_label input ≡ label

-- for each state the place of its set in a table, which says from there on whether each label is in the set
pub record Sets : Type 0 where
  pub places : List ℕ
  pub table : List Bool

-- a state without a set has all labels
abbrev pub has : List Bool → Option ℕ → ℕ → Bool
has table None label = true
has table (Some place) label = get_or table (place + label) true

abbrev pub may : Sets → ℕ → ℕ → Bool
may sets s label = has sets.table (slice_get sets.places s) label

-- what is read next is in the state's set
abbrev pub IsAhead : Machine → Sets → Type 0
IsAhead m sets = (s label : ℕ) → ReadsNext m s label → may sets s label ≡ true

-- the set of s has what the set of t has
abbrev pub Covers : Sets → ℕ → ℕ → Type 0
Covers sets s t = (label : ℕ) → label ≤ 257 → may sets t label ≡ true → may sets s label ≡ true

-- An arc that reads has its label in the set of its state, and one that reads nothing all that is in the set of where it leads.
abbrev pub HasAlong : Sets → ℕ → ℕ → ℕ → Type 0
HasAlong sets s zero next = Covers sets s next
HasAlong sets s (suc n) next = may sets s (suc n) ≡ true

-- where the state is an end, 0 is in its set
abbrev pub HasEnd : Sets → ℕ → Option ℕ → Type 0
HasEnd sets s None = Unit {0}
HasEnd sets s (Some w) = may sets s 0 ≡ true

-- so it is with the arcs and the end of a state
pub record IsClosedAt (m : Machine) (sets : Sets) (s : ℕ) : Type 0 where
  pub arcs : All (λ a. HasAlong sets s a.input a.next) (get_or m.arcs s [])
  pub end : HasEnd sets s (final_of m.finals s)
