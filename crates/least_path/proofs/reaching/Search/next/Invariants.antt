use Rattle.std.proofs.Common.{length}
use Rattle.least_path.proofs.Taking.{Same}
use Rattle.least_path.proofs.reaching.Search.next.Given as goal

abbrev pub invariant-loop-entry : goal.invariant-loop-entry
invariant-loop-entry l = Same l.fn.self l.self

abbrev pub decreases-loop-entry : goal.decreases-loop-entry
decreases-loop-entry l = length l.self.queue.items
