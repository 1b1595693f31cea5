use Rattle.std.proofs.Common.{◌≡◌}
use Rattle.state_tuples.specs.Positions.{back, padded}
use Rattle.state_tuples.proofs.joins.entering_at.Given as goal

abbrev pub invariant-loop-i : goal.invariant-loop-i
invariant-loop-i l = l.states ≡ padded (back 0 l.t.states l.i)
