use Rattle.std.proofs.Common.{◌≡◌, take, min}
use Rattle.std.specs.List.{sum_by}
use Rattle.token_record.specs.Fields.{field_count, field_of, no_fields}
use Rattle.token_record.proofs.counting.+count.Given as goal

abbrev pub invariant-count_fields-loop-field : goal.invariant-count_fields-loop-field
invariant-count_fields-loop-field l = l.all ≡ min (sum_by (λ f. field_count (field_of f no_fields)) (take l.field-index l.fields)) 18446744073709551615
