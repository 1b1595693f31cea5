use Rattle.std.proofs.Common.{◌≡◌, length}
use Rattle.weighted_relations.specs.Expressions.{holds_mark}
use Rattle.checked_expressions.proofs.nodes.holds_mark.Given as goal

abbrev pub invariant-loop-rest : goal.invariant-loop-rest
invariant-loop-rest l = holds_mark l.rest ≡ holds_mark l.labels

abbrev pub decreases-loop-rest : goal.decreases-loop-rest
decreases-loop-rest l = length l.rest
