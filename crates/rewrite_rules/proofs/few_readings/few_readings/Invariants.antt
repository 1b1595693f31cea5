use Rattle.rewrite_rules.proofs.Ending.{Following}
use Rattle.rewrite_rules.proofs.few_readings.few_readings.Given as goal

abbrev pub invariant-loop : goal.invariant-loop
invariant-loop l = Following l.a l.begun.items l.found.items
