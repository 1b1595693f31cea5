use Rattle.std.proofs.Common.{◌≡◌, length}
use Rattle.checked_expressions.specs.Sound.{are_labels}
use Rattle.checked_expressions.proofs.nodes.are_labels.Given as goal

abbrev pub invariant-loop-rest : goal.invariant-loop-rest
invariant-loop-rest l = are_labels l.rest ≡ are_labels l.labels

abbrev pub decreases-loop-rest : goal.decreases-loop-rest
decreases-loop-rest l = length l.rest
