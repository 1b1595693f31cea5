-- Codes that are framed by their length.
use Rattle.std.specs.Prelude.{◌≡◌, ◌≤◌, ℕ, List, length, slice_index}

abbrev pub IsFramed : List ℕ → Type 0
IsFramed code = (9 ≤ length code) × (length code ≤ 2048) × (slice_index code 0 ≡ length code)
