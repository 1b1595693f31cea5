use Rattle.merged_arcs.proofs.Parting.{SaidTo}
use Rattle.merged_arcs.proofs.apart.are_apart.Given as goal

abbrev pub invariant-loop-i : goal.invariant-loop-i
invariant-loop-i l = SaidTo l.row l.i l.sayings
