use Rattle.std.proofs.Common.{◌≡◌, ◌++◌, take}
use Rattle.std.specs.List.{flat_map}
use Rattle.token_record.specs.Fields.{field_of, no_fields}
use Rattle.token_record.specs.Written.{written_fields}
use Rattle.token_record.proofs.writing.+write.Given as goal

abbrev pub invariant-write_fields-loop-field : goal.invariant-write_fields-loop-field
invariant-write_fields-loop-field l = l.out.items ≡ l.fn.out.items ++ flat_map (λ f. written_fields (field_of f no_fields)) (take l.field-index l.fields)
