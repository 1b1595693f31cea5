use Rattle.std.proofs.Common.{All}
use Rattle.normaliser.specs.Searches.{IsCallerOf}
use Rattle.normaliser_tests.proofs.beside.workers.Given as goal

abbrev pub invariant-loop-work : goal.invariant-loop-work
invariant-loop-work l = All (IsCallerOf l.normaliser) l.callers.items × All (λ w. IsCallerOf l.normaliser w.caller) l.workers.items
