use Rattle.field_orders.specs.Sources.{IsSource}
use Rattle.token_tests.proofs.orders.walks.Given as goal

abbrev pub invariant-loop-byte : goal.invariant-loop-byte
invariant-loop-byte l = IsSource l.source
