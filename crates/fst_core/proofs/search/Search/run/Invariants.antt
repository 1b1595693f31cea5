use Rattle.std.proofs.Common.{◌-◌}
use Rattle.fst_core.specs.Reach.{RunTo}
use Rattle.fst_core.proofs.search.Search.run.Given as goal

abbrev pub invariant-loop-s : goal.invariant-loop-s
invariant-loop-s l = RunTo l.a l.which l.initial.self l.next l.self

abbrev pub decreases-loop-s : goal.decreases-loop-s
decreases-loop-s l = l.self.size - l.next
