use Rattle.std.proofs.Common.{◌≡◌, ◌∙◌, sym, ap, arith, ℕ, ◌≤◌, List, ◌++◌, length, take}
use Rattle.std.specs.List.{flat_map}
use Rattle.std.proofs.lemmas.List.{take_all}
use Rattle.token_record.specs.declared.tokens.Field.{Field}
use Rattle.token_record.specs.Fields.{field_of, fields_of, no_fields}
use Rattle.token_record.specs.Written.{written_fields}
use Rattle.token_record.proofs.Records.{written_each}
use Rattle.token_record.proofs.writing.+write.Goals as goal

-- after the last field
all_fields : (out : List ℕ) (xs : List Field) (i : ℕ) → length xs ≤ i → out ++ flat_map (λ f. written_fields (field_of f no_fields)) (take i xs) ≡ out ++ written_fields (fields_of xs)
all_fields out xs i l = ap (λ z. out ++ z) (ap (flat_map (λ f. written_fields (field_of f no_fields))) (take_all i xs l) ∙ sym (written_each xs))

pub write_fields-returns : goal.write_fields-returns
write_fields-returns t c = c.loop-field.invariant ∙ all_fields c.args.out.now.items c.args.fields.now c.loop-field.field-index (omega arith)
