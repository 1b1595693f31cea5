-- The places where the code of a key may stand, in the order in which they are tried.
use Rattle.std.specs.Prelude.{ℕ, zero, suc, ◌+◌, ◌*◌, ◌%◌, List, [], ◌∷◌, ◌++◌, get_or, if◌then◌else◌, ltb}

-- A sum of the words of the key, each times a number of its own, without what passes 64 bits.
unfoldable pub hash : List ℕ → ℕ
hash key = (31 * get_or key 0 0 + 131 * get_or key 1 0 + 8191 * get_or key 2 0 + 524287 * get_or key 3 0 + 2147483647 * get_or key 4 0 + 7 * get_or key 5 0) % 18446744073709551616

-- the way of the number i among n places: the first is told by the hash, and the places after it follow, round the end
abbrev pub way_at : List ℕ → ℕ → ℕ → ℕ
way_at key n i = (hash key % n + i) % n

-- four, or all places where there are fewer
abbrev pub way_count : ℕ → ℕ
way_count n = if ltb n 4 then n else 4

-- the first k ways, in order
abbrev pub first_ways : List ℕ → ℕ → ℕ → List ℕ
first_ways key n zero = []
first_ways key n (suc k) = first_ways key n k ++ way_at key n k ∷ []

-- the ways of a key among n places
abbrev pub ways : List ℕ → ℕ → List ℕ
ways key n = first_ways key n (way_count n)
