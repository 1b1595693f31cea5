use Rattle.field_orders.specs.Sources.{IsSource}
use Rattle.measure_tokens.proofs.walks.one_order.Given as goal

abbrev pub invariant-loop : goal.invariant-loop
invariant-loop l = IsSource l.source
