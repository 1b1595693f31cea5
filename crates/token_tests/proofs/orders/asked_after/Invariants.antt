use Rattle.field_orders.specs.Sources.{IsSource}
use Rattle.token_tests.proofs.orders.asked_after.Given as goal

abbrev pub invariant-loop-state : goal.invariant-loop-state
invariant-loop-state l = IsSource l.source
