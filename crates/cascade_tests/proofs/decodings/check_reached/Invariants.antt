use Rattle.std.proofs.Common.{All}
use Rattle.state_tuples.specs.Cascades.{IsOf}
use Rattle.cascade_tests.proofs.decodings.check_reached.Given as goal

abbrev pub invariant-loop-k : goal.invariant-loop-k
invariant-loop-k g l = All (IsOf l.cascade) l.reached.items
