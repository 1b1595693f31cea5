-- What a search by lists knows of its nodes, by number.
use Rattle.std.specs.Prelude.{◌≡◌, ◌⊎◌, ◌<◌, ℕ, List, Option, Some, None, slice_index_or}
use Rattle.least_path.specs.declared.queue.Entry.{Entry}
use Rattle.least_path.specs.declared.marks.Mark.{Mark}
use Rattle.least_path.specs.declared.marks.Mark.TheVariants.{Unmet, Waiting, Done}

abbrev pub mark_of : List Mark → ℕ → Mark
mark_of marks k = slice_index_or marks k Unmet

-- the best way so far
abbrev pub best_of : Mark → Option Entry
best_of Unmet = None
best_of (Waiting b) = Some b
best_of (Done b) = Some b

abbrev pub IsWaiting : Mark → Type 0
IsWaiting m = (b : Entry) × (m ≡ Waiting b)

-- less than a way of this weight and length, whatever its output
abbrev pub IsShorter : Entry → ℕ → ℕ → Type 0
IsShorter b weight length = (b.weight < weight) ⊎ ((b.weight ≡ weight) × (b.length < length))
