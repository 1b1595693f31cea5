use Rattle.std.proofs.Common.{length}
use Rattle.acceptor_ops.proofs.Filling.{AddedTo}
use Rattle.acceptor_ops.proofs.kernels.kernel.Given as goal

abbrev pub invariant-loop-s : goal.invariant-loop-s
invariant-loop-s l = AddedTo l.seeds (length l.a.arcs) l.s-index l.search
