use Rattle.std.proofs.Common.{◌≡◌, drop, length, take}
use Rattle.state_tuples.specs.Positions.{most_parts}
use Rattle.state_tuples.proofs.decoding.states_at.Given as goal

abbrev pub invariant-loop-k : goal.invariant-loop-k
invariant-loop-k l = (length l.states ≡ most_parts) × (take l.k l.states ≡ take l.k (drop l.at l.code))
