use Rattle.field_orders.specs.Sources.{IsSource}
use Rattle.measure_tokens.proofs.walks.after.Given as goal

abbrev pub invariant-loop-state : goal.invariant-loop-state
invariant-loop-state l = IsSource l.source
