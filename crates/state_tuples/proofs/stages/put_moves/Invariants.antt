use Rattle.std.proofs.Common.{◌≡◌}
use Rattle.state_tuples.specs.Stages.{stage}
use Rattle.state_tuples.proofs.stages.put_moves.Given as goal

abbrev pub invariant-loop-k : goal.invariant-loop-k
invariant-loop-k l = l.into.items ≡ stage l.cascade l.t l.asked l.k
