use Rattle.std.proofs.Common.{All}
use Rattle.normaliser.specs.Searches.{IsCallerOf}
use Rattle.normaliser_tests.proofs.stopping.stop_all.Given as goal

abbrev pub invariant-loop-place : goal.invariant-loop-place
invariant-loop-place l = All (IsCallerOf l.normaliser) l.callers.items
