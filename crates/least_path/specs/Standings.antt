-- How the nodes of a search stand, by number.
use Rattle.std.specs.Prelude.{◌≡◌, ◌⊎◌, ◌<◌, ℕ, List, slice_index_or, sum_by}
use Rattle.least_path.specs.declared.standings.Standing.{Standing}
use Rattle.least_path.specs.declared.standings.Standing.TheVariants.{Unmet, Met, Settled}

abbrev pub standing_of : List Standing → ℕ → Standing
standing_of standings k = slice_index_or standings k Unmet

abbrev pub settled_one : Standing → ℕ
settled_one Unmet = 0
settled_one (Met b) = 0
settled_one Settled = 1

-- how many are settled
abbrev pub settled_count : List Standing → ℕ
settled_count standings = sum_by settled_one standings

-- a way of this weight and length need not wait, whatever its output
abbrev pub Passes : Standing → ℕ → ℕ → Type 0
Passes Unmet weight length = ⊥
Passes (Met b) weight length = (b.weight < weight) ⊎ ((b.weight ≡ weight) × (b.length < length))
Passes Settled weight length = Unit {0}
