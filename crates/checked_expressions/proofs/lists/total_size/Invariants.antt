use Rattle.std.proofs.Common.{◌≡◌, ◌+◌, ◌≤◌, map, min, length}
use Rattle.weighted_relations.specs.Expressions.{members, sizes}
use Rattle.checked_expressions.specs.Answers.{shared_of}
use Rattle.checked_expressions.proofs.lists.total_size.Given as goal

abbrev pub invariant-loop-rest : goal.invariant-loop-rest
invariant-loop-rest l = (min (l.total + sizes (members (map shared_of l.rest))) 4194304 ≡ min (sizes (members (map shared_of l.values))) 4194304) × (l.total ≤ 4194304)

abbrev pub decreases-loop-rest : goal.decreases-loop-rest
decreases-loop-rest l = length l.rest
