-- The numbers of nodes, and what is kept beside each.
use Rattle.std.specs.Prelude.{◌≡◌, ◌⊎◌, ◌↔◌, ◌<◌, ◌≤◌, ℕ, List, [], ◌∷◌, ◌++◌, Option, Some, slice_get, length}
use Rattle.least_path.specs.declared.node.Node.{Node}
use Rattle.least_path.specs.declared.node.Node.TheVariants.{End}

-- a node has this number, and what is kept of the nodes is as before, with `unmet` for a new one
pub record Noted {T : Type 0} (unmet : T) (old new : List Node) (marks marks' : List T) (n : Node) (i : ℕ) : Type 0 where
  pub number : slice_get new i ≡ Some n
  pub even : length marks' ≡ length new
  pub stays : (k : ℕ) (m : Node) → slice_get old k ≡ Some m → slice_get new k ≡ Some m
  pub only : (k : ℕ) (m : Node) → slice_get new k ≡ Some m → k < length old → slice_get old k ≡ Some m
  pub longer : length old ≤ length new
  pub new_one : (k : ℕ) (m : Node) → slice_get new k ≡ Some m → length old ≤ k → m ≡ n
  pub added : (marks' ≡ marks) ⊎ (marks' ≡ marks ++ unmet ∷ [])

-- a node has this number, which is the next where it is new
pub record Arrived (old new : List Node) (n : Node) (i : ℕ) : Type 0 where
  pub stored : slice_get new i ≡ Some n
  pub added : ((i < length old) × (new ≡ old)) ⊎ ((i ≡ length old) × (new ≡ old ++ n ∷ []))

-- the number of the end, where it has one
abbrev pub IsNumberOfEnd : List Node → Option ℕ → Type 0
IsNumberOfEnd nodes end = (k : ℕ) → (slice_get nodes k ≡ Some End) ↔ (end ≡ Some k)

-- the end has at most one number
abbrev pub HasOneEnd : List Node → Type 0
HasOneEnd nodes = (i j : ℕ) → slice_get nodes i ≡ Some End → slice_get nodes j ≡ Some End → i ≡ j
