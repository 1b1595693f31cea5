use Rattle.acceptor_ops.proofs.Filling.{ActiveTo}
use Rattle.acceptor_ops.proofs.kernels.active.Given as goal

abbrev pub invariant-loop-s : goal.invariant-loop-s
invariant-loop-s l = ActiveTo l.a l.states l.s-index l.kept.items
