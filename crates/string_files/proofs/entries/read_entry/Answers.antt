use Rattle.std.proofs.Common.{◌≡◌, true, rules, sym, ◌∙◌}
use Rattle.string_files.specs.Fields.{are_bytes}
use Rattle.string_files.proofs.EntryRules.{four_fields}
use Rattle.string_files.proofs.entries.read_entry.Goals as goal

pub returns-then-is_some : goal.returns-then-is_some
returns-then-is_some c =
    let whole : are_bytes c.args.line.now ≡ true = search rules in
    four_fields (λ v. v.now) c.args.line.now c.first_field.result.0.now c.first_field-2.result.0.now c.first_field-3.result.0.now c.in-Some.rest.now c.in-Some-rest.rest.now c.first_field-3.result.1 whole
    (rw c.in-Some.is at c.first_field.ensures.more) (rw c.in-Some-rest.is at c.first_field-2.ensures.more) (sym c.is_some.ensures ∙ c.if-is_some.true) c.first_field-3.ensures.more
