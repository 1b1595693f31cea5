use Rattle.std.proofs.Common.{arith, refl, get_or}
use Rattle.lexicon_trees.proofs.Walks.{led_none, led_more}
use Rattle.lexicon_trees.proofs.trees.Tree.walk.Goals as goal

pub step-requires-clause-tree : goal.step-requires-clause-tree
step-requires-clause-tree c = c.loop-label.invariant.tree

pub step-requires-clause-state : goal.step-requires-clause-state
step-requires-clause-state c = c.loop-label.invariant.within

pub loop-label-init : goal.loop-label-init
loop-label-init c = led_none c.args.self.now c.args.from c.args.way c.requires.tree c.requires.from

pub loop-label-preserved : goal.loop-label-preserved
loop-label-preserved c = led_more c.args.self.now c.loop-label.self c.step.new.self c.args.from c.loop-label.state c.in_ok-state.state c.loop-label.label-index (get_or c.args.labels.now c.loop-label.label-index 0) c.read.result c.written.result c.args.way c.args.labels.now c.requires.labels (omega arith) refl c.read.ensures c.written.ensures c.loop-label.invariant c.in_ok-state.ensures
