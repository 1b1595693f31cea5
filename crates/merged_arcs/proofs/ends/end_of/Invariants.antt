use Rattle.merged_arcs.proofs.Gathering.{EndTo}
use Rattle.merged_arcs.proofs.ends.end_of.Given as goal

abbrev pub invariant-loop-s : goal.invariant-loop-s
invariant-loop-s l = EndTo l.a l.set l.s-index l.last
