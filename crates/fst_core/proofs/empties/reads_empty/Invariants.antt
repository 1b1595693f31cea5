use Rattle.fst_core.proofs.EmptyInputs.{NoneFinal}
use Rattle.fst_core.proofs.empties.reads_empty.Given as goal

abbrev pub invariant-loop-i : goal.invariant-loop-i
invariant-loop-i l = NoneFinal l.a l.found l.i
