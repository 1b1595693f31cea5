use Rattle.std.proofs.Common.{◌<◌, rules}
use Rattle.weighted_relations.specs.Expressions.{size}
use Rattle.speak_core.proofs.RuleLines.{next_line, all_rest}
use Rattle.speak_core.proofs.sizes.add.Goals as goal

pub loop-names_left-preserved : goal.loop-names_left-preserved
loop-names_left-preserved c = (
  next_line c.args.kind.now _ c.loop-names_left.text.items c.extend_from_slice.new.self.items c.deref.result.now c.loop-names_left.names_left.now c.loop-names_left.rules_left.now c.name-item.result c.rule-item.result (search rules) (search rules) (search rules) (search rules) c.loop-names_left.invariant.0,
  all_rest (λ e. size e < 4194304) c.loop-names_left.rules_left.now c.loop-names_left.invariant.1,
)
