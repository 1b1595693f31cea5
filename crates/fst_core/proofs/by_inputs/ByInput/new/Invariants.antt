use Rattle.fst_core.specs.Sorted.{RowsReordered}
use Rattle.fst_core.proofs.by_inputs.ByInput.new.Given as goal

abbrev pub invariant-loop-s : goal.invariant-loop-s
invariant-loop-s l = RowsReordered l.s l.a l.built
