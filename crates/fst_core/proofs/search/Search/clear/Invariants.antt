use Rattle.std.proofs.Common.{length}
use Rattle.fst_core.proofs.Searches.{Clearing}
use Rattle.fst_core.proofs.search.Search.clear.Given as goal

abbrev pub invariant-loop-s : goal.invariant-loop-s
invariant-loop-s l = Clearing l.fn.self.size l.self-inside.marks.items l.self-inside.found.items

abbrev pub decreases-loop-s : goal.decreases-loop-s
decreases-loop-s l = length l.self-inside.found.items
