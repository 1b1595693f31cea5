use Rattle.std.proofs.Common.{◌≡◌, ◌++◌, ◌∷◌}
use Rattle.std.specs.Prelude.{take}
use Rattle.field_orders.specs.Orders.{escaped}
use Rattle.field_orders.proofs.tables.value_text.Given as goal

abbrev pub invariant-loop-byte : goal.invariant-loop-byte
invariant-loop-byte l = l.text.items ≡ l.name ++ 58 ∷ escaped (take l.byte-index l.value)
