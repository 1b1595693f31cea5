use Rattle.std.proofs.Common.{◌≡◌, ◌-◌, ◌^◌, length}
use Rattle.acceptor_ops.proofs.Determined.{Building}
use Rattle.acceptor_ops.proofs.determines.determinise.Given as goal

abbrev pub invariant-loop-alloc : goal.invariant-loop-alloc
invariant-loop-alloc l = record {
  size : l.search.size ≡ length l.a.arcs;
  built : Building l.a l.classes l.start l.sets l.rows;
}

abbrev pub decreases-loop-alloc : goal.decreases-loop-alloc
decreases-loop-alloc l = 2 ^ 63 - length l.rows.next
