use Rattle.merged_arcs.proofs.Gathering.{ArcsTo}
use Rattle.merged_arcs.proofs.rows.gathered.Given as goal

abbrev pub invariant-loop-s : goal.invariant-loop-s
invariant-loop-s l = ArcsTo l.a l.set l.s-index l.arcs.items
