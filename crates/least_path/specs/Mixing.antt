-- What is hashed of a node.
use Rattle.std.specs.Prelude.{ℕ, ◌*◌, ◌%◌, ◌^◌, bit_xor, slice_index_or}
use Rattle.std.specs.Int.{rotate_left, w64}
use Rattle.least_path.specs.declared.node.Node.{Node}
use Rattle.least_path.specs.declared.node.Node.TheVariants.{At, End}

-- one word more
unfoldable pub mixed : ℕ → ℕ → ℕ
mixed hash word = (bit_xor (rotate_left w64 hash 5) word * 5871781006564002453) % 2 ^ 64

-- all words of a node
unfoldable pub mix_of : Node → ℕ
mix_of End = 0
mix_of (At q t) = mixed (mixed (mixed (mixed (mixed (mixed q t.cascade) t.filters) (slice_index_or t.states 0 0)) (slice_index_or t.states 1 0)) (slice_index_or t.states 2 0)) (slice_index_or t.states 3 0)
