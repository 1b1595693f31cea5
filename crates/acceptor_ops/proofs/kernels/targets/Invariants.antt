use Rattle.acceptor_ops.specs.StateSets.{Filled}
use Rattle.acceptor_ops.proofs.kernels.targets.Given as goal

abbrev pub invariant-loop-s : goal.invariant-loop-s
invariant-loop-s l = Filled l.a l.classes.classes l.classes.count l.set l.s-index l.buckets
