use Rattle.std.proofs.Common.{All, IsTrue, take}
use Rattle.weighted_relations.specs.Machines.{WellFormed}
use Rattle.fst_core.specs.Sorted.{HasSortedRows}
use Rattle.state_tuples.proofs.cascades.all_sorted.Given as goal

abbrev pub invariant-loop-part : goal.invariant-loop-part
invariant-loop-part l = record {
  sound : All WellFormed (take l.part-index l.parts);
  sorted : IsTrue l.sorted → All HasSortedRows (take l.part-index l.parts);
}
