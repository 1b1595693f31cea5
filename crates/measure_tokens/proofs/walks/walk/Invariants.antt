use Rattle.field_orders.specs.Sources.{IsSource}
use Rattle.measure_tokens.proofs.walks.walk.Given as goal

abbrev pub invariant-loop-byte : goal.invariant-loop-byte
invariant-loop-byte l = IsSource l.source
