use Rattle.std.proofs.Common.{All}
use Rattle.state_tuples.specs.Cascades.{IsOf}
use Rattle.cascade_tests.proofs.decodings.go_on.Given as goal

abbrev pub invariant-loop-a : goal.invariant-loop-a
invariant-loop-a l = All (IsOf l.cascade) l.reached.items
