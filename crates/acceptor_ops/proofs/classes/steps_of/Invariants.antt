use Rattle.acceptor_ops.specs.Alike.{StepsTo}
use Rattle.acceptor_ops.proofs.classes.steps_of.Given as goal

abbrev pub invariant-loop-s : goal.invariant-loop-s
invariant-loop-s l = StepsTo l.a l.s l.pairs l.steps
