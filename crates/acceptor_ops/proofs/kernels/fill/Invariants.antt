use Rattle.acceptor_ops.specs.StateSets.{RowFilled}
use Rattle.acceptor_ops.proofs.kernels.fill.Given as goal

abbrev pub invariant-loop-arc : goal.invariant-loop-arc
invariant-loop-arc l = RowFilled l.classes.classes l.row l.arc-index l.initial.buckets l.buckets
