use Rattle.std.proofs.Common.{◌≡◌, map, ◌++◌}
use Rattle.std.specs.Prelude.{replicate}
use Rattle.checked_expressions.specs.Answers.{shared_of}
use Rattle.checked_expressions.proofs.lists.append.Given as goal

abbrev pub invariant-loop : goal.invariant-loop
invariant-loop l = map shared_of l.parts.items ≡ map shared_of l.initial.parts.items ++ replicate l.counter (shared_of l.value)
