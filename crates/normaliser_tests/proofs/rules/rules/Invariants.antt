use Rattle.std.proofs.Common.{All, map}
use Rattle.core_expressions.specs.Views.{expression_of}
use Rattle.normaliser.specs.Loads.{CanBeBuilt}
use Rattle.normaliser_tests.proofs.rules.rules.Given as goal

abbrev pub invariant-loop-grammar : goal.invariant-loop-grammar
invariant-loop-grammar l = All CanBeBuilt (map expression_of l.rules.items)
