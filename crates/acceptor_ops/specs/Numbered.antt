-- Sets of states, by number, and the rows of an automaton of them.
use Rattle.std.specs.Prelude.{◌≡◌, ◌<◌, ℕ, List, [], ◌∷◌, ◌++◌, length, get_or, Bool}
use Rattle.weighted_relations.specs.Relations.{IsLabel}
use Rattle.state_table.specs.Numbers.{Keeps}
use Rattle.weighted_relations.specs.Machines.{Machine}
use Rattle.acceptor_ops.specs.Tables.{class_of}
use Rattle.acceptor_ops.specs.StateSets.{IsKernel, Steps}

-- each numbered set is a kernel
abbrev pub AllKernels : Machine → List (List ℕ) → Type 0
AllKernels m sets = (k : ℕ) → k < length sets → IsKernel m (get_or sets k [])

-- where the labels of the first n classes lead from the set of number k
pub record RowOf (m : Machine) (classes : List ℕ) (sets : List (List ℕ)) (k n : ℕ) (row : List ℕ) : Type 0 where
  pub count : length row ≡ n
  pub within : (c : ℕ) → c < n → get_or row c 0 < length sets
  pub steps : (l : ℕ) → IsLabel l → class_of classes l < n → Steps m (get_or sets k []) l (get_or sets (get_or row (class_of classes l) 0) [])

-- the sets new have those of old, and a row from the set of number k
pub record RowAdded (m : Machine) (classes : List ℕ) (old new : List (List ℕ)) (k n : ℕ) (row : List ℕ) : Type 0 where
  pub keeps : Keeps old new
  pub kernels : AllKernels m new
  pub made : RowOf m classes new k n row

-- rows and marks of states
pub record RowsMade : Type 0 where
  pub next : List (List ℕ)
  pub accepting : List Bool

-- one more state
abbrev pub with_row : RowsMade → List ℕ → Bool → RowsMade
with_row b row last = record { next = b.next ++ row ∷ []; accepting = b.accepting ++ last ∷ [] }
