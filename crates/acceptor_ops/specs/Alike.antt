-- Classes of labels that no state of a transducer tells apart.
use Rattle.std.specs.Prelude.{◌≡◌, ◌⊎◌, ◌≤◌, ◌<◌, ℕ, List, [], length, get_or, slice_get, Some}
use Rattle.std.specs.List.{Contains}
use Rattle.weighted_relations.specs.declared.Arc.{Arc}
use Rattle.weighted_relations.specs.Relations.{IsLabel}
use Rattle.weighted_relations.specs.Machines.{Machine, IsArc}
use Rattle.state_table.specs.Numbers.{Keeps}
use Rattle.acceptor_ops.specs.Tables.{class_of}

-- each label's class, and how many classes there are
pub record Classing : Type 0 where
  pub classes : List ℕ
  pub count : ℕ

-- an arc with this input label leads from s to t
pub record ArcTo (m : Machine) (s label t : ℕ) : Type 0 where
  pub place : ℕ
  pub arc : Arc
  pub there : IsArc m.arcs s place arc
  pub input : arc.input ≡ label
  pub next : arc.next ≡ t

-- where one label of a class leads, each label of it does
pub record AreClasses (m : Machine) (c : Classing) : Type 0 where
  pub length : length c.classes ≡ 258
  pub within : (l : ℕ) → l ≤ 257 → class_of c.classes l < c.count
  pub alike : (s l r t : ℕ) → IsLabel l → IsLabel r → class_of c.classes l ≡ class_of c.classes r → ArcTo m s l t → ArcTo m s r t

-- a state beside one that an arc leads to from it
abbrev pub Step : Type 0
Step = ℕ × ℕ

-- the steps of a label are among the pairs, and have these numbers
pub record HasSteps (m : Machine) (k : ℕ) (pairs : List Step) (label : ℕ) (numbers : List ℕ) : Type 0 where
  pub all : (s t : ℕ) → s < k → ArcTo m s label t → (n : ℕ) × Contains numbers n × (slice_get pairs n ≡ Some (s, t))
  pub only : (n : ℕ) → Contains numbers n → (s : ℕ) × (t : ℕ) × ArcTo m s label t × (slice_get pairs n ≡ Some (s, t))

-- each label's list has the numbers of its steps from the first k states
pub record StepsTo (m : Machine) (k : ℕ) (pairs : List Step) (lists : List (List ℕ)) : Type 0 where
  pub count : length lists ≡ 258
  pub each : (l : ℕ) → HasSteps m k pairs l (get_or lists l [])

-- each label's list has the numbers of its steps
abbrev pub AreSteps : Machine → List (List ℕ) → Type 0
AreSteps m lists = (pairs : List Step) × StepsTo m (length m.arcs) pairs lists

-- the lists have the numbers of the steps of the first k arcs of a state's row, beside those that stood there
pub record RowNoted (s : ℕ) (row : List Arc) (k : ℕ) (old : List Step) (lists : List (List ℕ)) (new : List Step) (more : List (List ℕ)) : Type 0 where
  pub keeps : Keeps old new
  pub count : length more ≡ length lists
  pub kept : (l n : ℕ) → Contains (get_or lists l []) n → Contains (get_or more l []) n
  pub all : (j : ℕ) (a : Arc) → j < k → slice_get row j ≡ Some a → (n : ℕ) × Contains (get_or more a.input []) n × (slice_get new n ≡ Some (s, a.next))
  pub only : (l n : ℕ) → Contains (get_or more l []) n → Contains (get_or lists l []) n ⊎ ((j : ℕ) × (a : Arc) × (slice_get row j ≡ Some a) × (a.input ≡ l) × (slice_get new n ≡ Some (s, a.next)))

-- the classes of the first k lists, of which equal ones have one class
pub record AreNumbered (lists : List (List ℕ)) (k : ℕ) (c : Classing) : Type 0 where
  pub length : length c.classes ≡ k
  pub within : (l : ℕ) → l < k → class_of c.classes l < c.count
  pub alike : (l r : ℕ) → l < k → r < k → class_of c.classes l ≡ class_of c.classes r → get_or lists l [] ≡ get_or lists r []
