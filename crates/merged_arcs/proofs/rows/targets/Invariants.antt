use Rattle.merged_arcs.proofs.Runs.{TargetsTo}
use Rattle.merged_arcs.proofs.rows.targets.Given as goal

abbrev pub invariant-loop-i : goal.invariant-loop-i
invariant-loop-i l = TargetsTo l.arcs l.from l.i l.found.items
