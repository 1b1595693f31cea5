use Rattle.std.proofs.Common.{◌≡◌, map}
use Rattle.core_expressions.specs.Views.{expression_of}
use Rattle.checked_expressions.specs.Answers.{shared_of}
use Rattle.checked_expressions.proofs.lists.exprs_of.Given as goal

abbrev pub invariant-loop-value : goal.invariant-loop-value
invariant-loop-value l = map expression_of l.exprs.items ≡ map shared_of l.yielded
