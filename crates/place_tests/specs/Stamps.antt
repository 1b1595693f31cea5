-- Codes whose words after the key are all one number.
use Rattle.std.specs.Prelude.{◌≡◌, ℕ, ◌<◌, ◌≤◌, List, length, slice_index}

abbrev pub IsStamped : List ℕ → Type 0
IsStamped code = (9 ≤ length code) × (length code ≤ 2048) × (slice_index code 0 ≡ length code) × ((k : ℕ) → 7 ≤ k → k < length code → slice_index code k ≡ slice_index code 7)
