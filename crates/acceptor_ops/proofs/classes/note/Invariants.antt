use Rattle.acceptor_ops.specs.Alike.{RowNoted}
use Rattle.acceptor_ops.proofs.classes.note.Given as goal

abbrev pub invariant-loop-arc : goal.invariant-loop-arc
invariant-loop-arc l = RowNoted l.s l.row l.arc-index l.initial.pairs l.initial.steps l.pairs l.steps
