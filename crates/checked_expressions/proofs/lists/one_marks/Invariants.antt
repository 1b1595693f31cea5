use Rattle.std.proofs.Common.{◌≡◌, map, length}
use Rattle.weighted_relations.specs.Expressions.{members, some_marked}
use Rattle.checked_expressions.specs.Answers.{shared_of}
use Rattle.checked_expressions.proofs.lists.one_marks.Given as goal

abbrev pub invariant-loop-rest : goal.invariant-loop-rest
invariant-loop-rest l = some_marked (members (map shared_of l.rest)) ≡ some_marked (members (map shared_of l.values))

abbrev pub decreases-loop-rest : goal.decreases-loop-rest
decreases-loop-rest l = length l.rest
