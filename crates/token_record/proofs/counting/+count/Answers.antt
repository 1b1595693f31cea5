use Rattle.std.proofs.Common.{◌≡◌, ◌∙◌, sym, ap, arith, min, ℕ, List, take, length, ◌≤◌}
use Rattle.std.specs.List.{sum_by}
use Rattle.std.proofs.lemmas.List.{take_all}
use Rattle.token_record.specs.declared.tokens.Field.{Field}
use Rattle.token_record.specs.Fields.{field_count, field_of, fields_of, no_fields}
use Rattle.token_record.proofs.Records.{counted_each}
use Rattle.token_record.proofs.counting.+count.Goals as goal

-- after the last field
all_fields : (xs : List Field) (i most : ℕ) → length xs ≤ i → min (sum_by (λ f. field_count (field_of f no_fields)) (take i xs)) most ≡ min (field_count (fields_of xs)) most
all_fields xs i most l = ap (λ v. min (sum_by (λ f. field_count (field_of f no_fields)) v) most) (take_all i xs l) ∙ sym (ap (λ n. min n most) (counted_each xs))

pub count_fields-returns : goal.count_fields-returns
count_fields-returns t c = c.loop-field.invariant ∙ all_fields c.args.fields.now c.loop-field.field-index 18446744073709551615 (omega arith)
