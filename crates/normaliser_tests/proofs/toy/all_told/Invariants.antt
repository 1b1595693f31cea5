use Rattle.normaliser.specs.Searches.{IsCallerOf}
use Rattle.normaliser_tests.proofs.toy.all_told.Given as goal

abbrev pub invariant-loop-line : goal.invariant-loop-line
invariant-loop-line l = IsCallerOf l.normaliser l.caller
