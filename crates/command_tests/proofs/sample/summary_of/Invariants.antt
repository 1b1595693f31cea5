use Rattle.std.proofs.Common.{◌≡◌}
use Rattle.command_tests.proofs.sample.summary_of.Given as goal

abbrev pub invariant-loop-line : goal.invariant-loop-line
invariant-loop-line l = l.summary.lines ≡ l.line-index
