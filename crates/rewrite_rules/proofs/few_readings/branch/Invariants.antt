use Rattle.rewrite_rules.proofs.Ending.{BranchedTo}
use Rattle.rewrite_rules.proofs.few_readings.branch.Given as goal

abbrev pub invariant-loop-arc : goal.invariant-loop-arc
invariant-loop-arc l = BranchedTo l.a l.state l.so_far l.arc-index l.fn.begun.items l.begun.items
