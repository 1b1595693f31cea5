use Rattle.std.proofs.Common.{◌-◌, ◌^◌, length}
use Rattle.acceptor_ops.proofs.Besides.{Producing}
use Rattle.acceptor_ops.proofs.products.product.Given as goal

abbrev pub invariant-loop-alloc : goal.invariant-loop-alloc
invariant-loop-alloc l = Producing l.a l.d l.start l.pairs l.built.arcs l.built.finals

abbrev pub decreases-loop-alloc : goal.decreases-loop-alloc
decreases-loop-alloc l = 2 ^ 63 - length l.built.arcs
