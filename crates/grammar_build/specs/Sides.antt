-- The sides of expressions in the words for transducers, and their modes in those for rewrite rules.
use Rattle.fst_core.specs.declared.relabels.Side2.{Side2}
use Rattle.fst_core.specs.declared.relabels.Side2.TheVariants as built
use Rattle.core_expressions.specs.declared.expressions.Side.{Side}
use Rattle.core_expressions.specs.declared.expressions.Side.TheVariants as side
use Rattle.rewrite_rules.specs.declared.modes.RewriteMode.{RewriteMode}
use Rattle.rewrite_rules.specs.declared.modes.RewriteMode.TheVariants as rule
use Rattle.core_expressions.specs.declared.expressions.Mode.{Mode}
use Rattle.core_expressions.specs.declared.expressions.Mode.TheVariants as mode

abbrev pub side2_of : Side → Side2
side2_of side.Input = built.Input
side2_of side.Output = built.Output

abbrev pub rule_of : Mode → RewriteMode
rule_of mode.Obligatory = rule.Obligatory
rule_of mode.Optional = rule.Optional
