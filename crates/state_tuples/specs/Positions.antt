-- Positions of a cascade as tuples. In lists, parts, states and filters stand from the last part to the first.
use Rattle.std.specs.Prelude.{ℕ, zero, suc, ◌+◌, ◌*◌, ◌^◌, ◌/◌, ◌%◌, ◌==◌, List, [], ◌∷◌, set, get_or, length, if◌then◌else◌}
use Rattle.compose_filter.specs.declared.filters.Filter.{Filter}
use Rattle.compose_filter.specs.declared.filters.Filter.TheVariants.{Open, Closed}

-- the first k of a list, from the last to the first
abbrev pub back : {X : Type 0} → X → List X → ℕ → List X
back d xs zero = []
back d xs (suc k) = get_or xs k d ∷ back d xs k

abbrev pub bit : Filter → ℕ
bit Open = 0
bit Closed = 1

-- the filters as a number: the filter before the second part counts 1, and each next one twice as much
abbrev pub bits : List Filter → ℕ
bits [] = 0
bits (f ∷ fs) = bits fs + bit f * 2 ^ length fs

-- the filter of a bit
abbrev pub filter_at : ℕ → ℕ → Filter
filter_at n i = if (n / 2 ^ i) % 2 == 0 then Open else Closed

-- the first k filters, from the last to the first
abbrev pub filters_of : ℕ → ℕ → List Filter
filters_of n zero = []
filters_of n (suc k) = filter_at n k ∷ filters_of n k

-- the greatest number of parts
abbrev pub most_parts : ℕ
most_parts = 4

abbrev pub zeros : ℕ → List ℕ
zeros zero = []
zeros (suc n) = 0 ∷ zeros n

-- the states from the first part to the last, with zeros after them
abbrev pub padded : List ℕ → List ℕ
padded [] = zeros most_parts
padded (q ∷ qs) = set (padded qs) (length qs) q
