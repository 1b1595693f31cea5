-- Sets of states of a transducer, of which only the inputs are looked at.
use Rattle.std.specs.Prelude.{◌≡◌, ◌↔◌, ◌⊎◌, ◌<◌, ◌≤◌, ℕ, List, [], ◌∷◌, ◌++◌, length, get_or, slice_get, slice_set, Some, IsSome}
use Rattle.std.specs.List.{Contains}
use Rattle.weighted_relations.specs.declared.Arc.{Arc}
use Rattle.weighted_relations.specs.Relations.{IsLabel, IsInput}
use Rattle.weighted_relations.specs.Machines.{Machine, From, final_of}
use Rattle.acceptor_ops.specs.Tables.{class_of}
use Rattle.acceptor_ops.specs.Alike.{ArcTo}

-- some reading from the state has this input
abbrev pub Takes : Machine → ℕ → List ℕ → Type 0
Takes m s x = IsInput (From m s) x

-- some reading from one of the states has this input
pub record TakesAny (m : Machine) (set : List ℕ) (x : List ℕ) : Type 0 where
  pub state : ℕ
  pub among : Contains set state
  pub takes : Takes m state x

-- one of the states is final
pub record AnyFinal (m : Machine) (set : List ℕ) : Type 0 where
  pub state : ℕ
  pub among : Contains set state
  pub final : IsSome (final_of m.finals state)

-- an arc of one of the states has the label, and leads to where the rest is taken
pub record AnyArc (m : Machine) (set : List ℕ) (label : ℕ) (rest : List ℕ) : Type 0 where
  pub state : ℕ
  pub among : Contains set state
  pub next : ℕ
  pub low : 1 ≤ label
  pub leads : ArcTo m state label next
  pub takes : Takes m next rest

-- an input can be begun in one of the states themselves, without an empty arc
abbrev pub Begins : Machine → List ℕ → List ℕ → Type 0
Begins m set [] = AnyFinal m set
Begins m set (label ∷ rest) = AnyArc m set label rest

-- no empty arc is needed to begin an input of the set
pub record IsKernel (m : Machine) (set : List ℕ) : Type 0 where
  pub states : (s : ℕ) → Contains set s → s < length m.arcs
  pub begins : (x : List ℕ) → TakesAny m set x → Begins m set x

-- the state is final, or has an arc with a label
abbrev pub IsActive : Machine → ℕ → Type 0
IsActive m s = IsSome (final_of m.finals s) ⊎ ((l : ℕ) × (t : ℕ) × (1 ≤ l) × ArcTo m s l t)

-- a kernel with the same inputs
pub record KernelOf (m : Machine) (seeds set : List ℕ) : Type 0 where
  pub kernel : IsKernel m set
  pub same : (x : List ℕ) → TakesAny m set x ↔ TakesAny m seeds x

-- what the arcs of the first k states with a label of each class lead to
pub record Filled (m : Machine) (classes : List ℕ) (n : ℕ) (set : List ℕ) (k : ℕ) (buckets : List (List ℕ)) : Type 0 where
  pub count : length buckets ≡ n
  pub all : (i l t : ℕ) → i < k → IsLabel l → ArcTo m (get_or set i 0) l t → Contains (get_or buckets (class_of classes l) []) t
  pub only : (c t : ℕ) → Contains (get_or buckets c []) t → (s : ℕ) × (l : ℕ) × Contains set s × IsLabel l × (class_of classes l ≡ c) × ArcTo m s l t

-- what takes the inputs of the set that are left after a label
pub record Steps (m : Machine) (set : List ℕ) (label : ℕ) (found : List ℕ) : Type 0 where
  pub same : (x : List ℕ) → TakesAny m found x ↔ TakesAny m set (label ∷ x)

-- a kernel with the inputs that are left after each label of a class
pub record StepsBy (m : Machine) (classes set : List ℕ) (c : ℕ) (found : List ℕ) : Type 0 where
  pub kernel : IsKernel m found
  pub steps : (l : ℕ) → IsLabel l → class_of classes l ≡ c → Steps m set l found

-- the arc has a label
abbrev pub HasLabel : Arc → Type 0
HasLabel a = 1 ≤ a.input

-- an arc whose label has one of so many classes
pub record FitsClasses (classes : List ℕ) (count : ℕ) (a : Arc) : Type 0 where
  pub label : a.input < length classes
  pub class : class_of classes a.input < count

-- what the first k arcs of the row with a label lead to stands in the buckets of their classes, beside what stood there
pub record RowFilled (classes : List ℕ) (row : List Arc) (k : ℕ) (old new : List (List ℕ)) : Type 0 where
  pub count : length new ≡ length old
  pub kept : (c t : ℕ) → Contains (get_or old c []) t → Contains (get_or new c []) t
  pub all : (j : ℕ) (a : Arc) → j < k → slice_get row j ≡ Some a → 1 ≤ a.input → Contains (get_or new (class_of classes a.input) []) a.next
  pub only : (c t : ℕ) → Contains (get_or new c []) t → Contains (get_or old c []) t ⊎ ((j : ℕ) × (a : Arc) × (slice_get row j ≡ Some a) × (1 ≤ a.input) × (class_of classes a.input ≡ c) × (a.next ≡ t))

-- one more element of one of the lists
abbrev pub with_element : List (List ℕ) → ℕ → ℕ → List (List ℕ)
with_element lists c t = slice_set lists c (get_or lists c [] ++ t ∷ [])
