use Rattle.acceptor_ops.specs.Beside.{Paired}
use Rattle.acceptor_ops.proofs.products.beside.Given as goal

abbrev pub invariant-loop-arc : goal.invariant-loop-arc
invariant-loop-arc l = Paired l.a l.d l.initial.pairs l.pairs l.second l.arc-index l.arc-items l.row.items
