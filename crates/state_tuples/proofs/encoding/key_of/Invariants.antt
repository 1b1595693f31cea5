use Rattle.std.proofs.Common.{◌≡◌, ◌+◌, ◌∷◌, length, take}
use Rattle.state_tuples.specs.Positions.{most_parts}
use Rattle.state_tuples.proofs.encoding.key_of.Given as goal

abbrev pub invariant-loop-k : goal.invariant-loop-k
invariant-loop-k l = (length l.words ≡ most_parts + 2) × (take (l.k + 1) l.words ≡ l.t.cascade ∷ take l.k l.t.states)
