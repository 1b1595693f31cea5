use Rattle.field_orders.specs.Sources.{RowTo}
use Rattle.field_orders.proofs.states.field_row.Given as goal

abbrev pub invariant-loop-i : goal.invariant-loop-i
invariant-loop-i l = RowTo l.table l.fn.states l.states l.left l.next l.i l.row.items
