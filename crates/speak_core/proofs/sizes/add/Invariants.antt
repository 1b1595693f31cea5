use Rattle.std.proofs.Common.{◌≡◌, ◌<◌, ◌++◌, All, map, length}
use Rattle.core_expressions.specs.Views.{expression_of}
use Rattle.weighted_relations.specs.Expressions.{size}
use Rattle.speak_core.specs.Outputs.{rule_lines}
use Rattle.speak_core.proofs.sizes.add.Given as goal

abbrev pub invariant-loop-names_left : goal.invariant-loop-names_left
invariant-loop-names_left l =
    (l.text.items ++ rule_lines l.kind l.names_left (map expression_of l.rules_left) ≡ l.initial.text.items ++ rule_lines l.kind l.names (map expression_of l.rules))
    × All (λ e. size e < 4194304) (map expression_of l.rules_left)

abbrev pub decreases-loop-names_left : goal.decreases-loop-names_left
decreases-loop-names_left l = length l.names_left
