use Rattle.std.proofs.Common.{◌≡◌, ◌+◌, ◌++◌, take}
use Rattle.state_tuples.proofs.encoding.put_states.Given as goal

abbrev pub invariant-loop-k : goal.invariant-loop-k
invariant-loop-k l = take (l.at + l.k) l.into ≡ take l.at l.initial.into ++ take l.k l.states
