use Rattle.std.proofs.Common.{take}
use Rattle.lexicon_trees.specs.Growing.{Led, all_read, all_written}
use Rattle.lexicon_trees.proofs.trees.Tree.walk.Given as goal

abbrev pub invariant-loop-label : goal.invariant-loop-label
invariant-loop-label l = Led l.initial.self l.self l.from (all_read l.way (take l.label-index l.labels)) (all_written l.way (take l.label-index l.labels)) l.state
