-- How many calls a search makes at least.
use Rattle.std.specs.Prelude.{◌≡◌, ◌≤◌, ℕ, ◌+◌, List, Option, Some, None, length}
use Rattle.weighted_relations.specs.Machines.{Machine, Reads}
use Rattle.weighted_relations.specs.Relations.{IsInput}

-- a number, where it is told, has risen by at least so much
abbrev pub HasRisen : ℕ → Option ℕ → Option ℕ → Type 0
HasRisen more None now = Unit {0}
HasRisen more (Some before) now = (after : ℕ) × (now ≡ Some after) × (before + more ≤ after)

-- each input of the source has at least so many labels
abbrev pub ReadsAtLeast : Machine → ℕ → Type 0
ReadsAtLeast source n = (x : List ℕ) → IsInput (Reads source) x → n ≤ length x

-- a call for each label that each input has at least, and one more
abbrev pub CallsForEach : Machine → Option ℕ → Option ℕ → Type 0
CallsForEach source before now = (n : ℕ) → ReadsAtLeast source n → HasRisen (n + 1) before now
