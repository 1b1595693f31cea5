use Rattle.std.proofs.Common.{◌≡◌}
use Rattle.acceptor_ops.specs.Numbered.{RowAdded}
use Rattle.acceptor_ops.proofs.determines.row_of.Given as goal

abbrev pub invariant-loop-c : goal.invariant-loop-c
invariant-loop-c l = record {
  size : l.search.size ≡ l.initial.search.size;
  row : RowAdded l.a l.classes.classes l.initial.sets l.sets l.k l.c l.row.items;
}
