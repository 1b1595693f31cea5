use Rattle.acceptor_ops.proofs.Labels.{NumberedTo}
use Rattle.acceptor_ops.proofs.classes.classed.Given as goal

abbrev pub invariant-loop-label : goal.invariant-loop-label
invariant-loop-label l = NumberedTo l.steps l.label l.lists l.of.items
