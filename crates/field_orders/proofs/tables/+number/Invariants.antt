use Rattle.std.proofs.Common.{map}
use Rattle.std.specs.Prelude.{take}
use Rattle.token_record.specs.Fields.{chain, field_of}
use Rattle.field_orders.specs.Tables.{Grown, NumbersOf}
use Rattle.field_orders.proofs.tables.+number.Given as goal

abbrev pub invariant-number_fields-loop-field : goal.invariant-number_fields-loop-field
invariant-number_fields-loop-field l = Grown l.fn.table.items l.table.items × NumbersOf l.table.items l.numbers.items (chain (map field_of (take l.field-index l.fields)))
