use Rattle.std.proofs.Common.{◌≡◌, ◌<◌, ℕ, ◌∙◌, arith, List, [], map, length, subst, true, false}
use Rattle.std.proofs.lemmas.Result.{IfOk-weaker}
use Rattle.token_record.specs.Fields.{Fields, chain, field_of, fields_of, no_fields, valued, braced}
use Rattle.token_record.specs.Writable.{AreBytes}
use Rattle.field_orders.specs.Tables.{Grown, NumberOf, NumbersOf, Added, value_text, brace_text}
use Rattle.field_orders.proofs.Numbering.{value_numbered, braces_numbered, bytes_at, numbers_more, grown_trans, field_depth, is_valued, is_braced}
use Rattle.field_orders.specs.Remainders.{Written}
use Rattle.token_record.specs.declared.tokens.Field.{Field}
use Rattle.field_orders.proofs.tables.+number.Goals as goal

-- what stands behind a call that adds the field
value_answer : (f : Field) (n v text : List ℕ) (inner : List ℕ) (old new : List Written) (k : ℕ) → ((t : Fields) → field_of f t ≡ valued n v t) → AreBytes (field_of f no_fields) → text ≡ value_text n v → inner ≡ [] → Added old new (record { text = text; inner = inner; braced = false }) k → Grown old new × NumberOf new k (field_of f)
value_answer f n v text inner old new k is bytes e g a = value_numbered old new k f n v is bytes (subst (λ z. Added old new (record { text = value_text n v; inner = z; braced = false }) k) g (subst (λ z. Added old new (record { text = z; inner = inner; braced = false }) k) e a))

pub number_field-returns-in_ok-text-in-Text-clause-table : goal.number_field-returns-in_ok-text-in-Text-clause-table
number_field-returns-in_ok-text-in-Text-clause-table t c =
    IfOk-weaker c.add.result _ _ (λ k a. (value_answer c.args.field.now c.args.field.now.name c.in-Text.value.items c.in_ok-text-in-Text.text.items c.new-inner.result.items c.args.table.now.items c.add.new.table.items k (is_valued c.args.field.now c.in-Text.value c.in-Text.is) c.requires.bytes (c.in_ok-text-in-Text.ensures ∙ cc) c.new-inner.ensures.items a).0) c.add.ensures.added

pub number_field-returns-in_ok-text-in-Text-clause-number : goal.number_field-returns-in_ok-text-in-Text-clause-number
number_field-returns-in_ok-text-in-Text-clause-number t c =
    IfOk-weaker c.add.result _ _ (λ k a. (value_answer c.args.field.now c.args.field.now.name c.in-Text.value.items c.in_ok-text-in-Text.text.items c.new-inner.result.items c.args.table.now.items c.add.new.table.items k (is_valued c.args.field.now c.in-Text.value c.in-Text.is) c.requires.bytes (c.in_ok-text-in-Text.ensures ∙ cc) c.new-inner.ensures.items a).1) c.add.ensures.added

braces_answer : (f : Field) (n text : List ℕ) (fs xs : List Field) (is : List ℕ) (first old new : List Written) (k : ℕ) → ((t : Fields) → field_of f t ≡ braced n (fields_of fs) t) → AreBytes (field_of f no_fields) → text ≡ brace_text n → xs ≡ fs
    → Grown first old → NumbersOf old is (chain (map field_of xs)) → Added old new (record { text = text; inner = is; braced = true }) k → Grown first new × NumberOf new k (field_of f)
braces_answer f n text fs xs is first old new k eq bytes e g grown numbers a = braces_numbered first old new k f n is (chain (map field_of fs)) eq bytes grown (subst (λ z. NumbersOf old is (chain (map field_of z))) g numbers) (subst (λ z. Added old new (record { text = z; inner = is; braced = true }) k) e a)

pub number_field-returns-in_ok-inner-in-Nested-clause-table : goal.number_field-returns-in_ok-inner-in-Nested-clause-table
number_field-returns-in_ok-inner-in-Nested-clause-table t c =
    IfOk-weaker c.add-in-Nested.result _ _ (λ k a. (braces_answer c.args.field.now c.args.field.now.name c.in_ok-text-in-Nested.text.items c.in-Nested.fields.items c.deref-in-Nested.result.now c.in_ok-inner-in-Nested.inner.items c.args.table.now.items c.number_fields.new.table.items c.add-in-Nested.new.table.items k (is_braced c.args.field.now c.in-Nested.fields c.in-Nested.is) c.requires.bytes (c.in_ok-text-in-Nested.ensures ∙ cc) c.deref-in-Nested.ensures.value c.in_ok-inner-in-Nested.ensures.table c.in_ok-inner-in-Nested.ensures.numbers a).0) c.add-in-Nested.ensures.added

pub number_field-returns-in_ok-inner-in-Nested-clause-number : goal.number_field-returns-in_ok-inner-in-Nested-clause-number
number_field-returns-in_ok-inner-in-Nested-clause-number t c =
    IfOk-weaker c.add-in-Nested.result _ _ (λ k a. (braces_answer c.args.field.now c.args.field.now.name c.in_ok-text-in-Nested.text.items c.in-Nested.fields.items c.deref-in-Nested.result.now c.in_ok-inner-in-Nested.inner.items c.args.table.now.items c.number_fields.new.table.items c.add-in-Nested.new.table.items k (is_braced c.args.field.now c.in-Nested.fields c.in-Nested.is) c.requires.bytes (c.in_ok-text-in-Nested.ensures ∙ cc) c.deref-in-Nested.ensures.value c.in_ok-inner-in-Nested.ensures.table c.in_ok-inner-in-Nested.ensures.numbers a).1) c.add-in-Nested.ensures.added

pub number_fields-number_field-requires : goal.number_fields-number_field-requires
number_fields-number_field-requires t c =
    let within : c.loop-field.field-index < length c.args.fields.now = omega arith in
    let deep = field_depth c.args.fields.now c.loop-field.field-index c.field-item.result within c.field-item.is in
    (omega (arith, deep, c.decreases), bytes_at c.args.fields.now c.loop-field.field-index c.field-item.result within c.field-item.is c.requires.bytes)

pub number_fields-loop-field-preserved : goal.number_fields-loop-field-preserved
number_fields-loop-field-preserved t c =
    let within : c.loop-field.field-index < length c.args.fields.now = omega arith in
    let i = c.loop-field.invariant in (
      grown_trans c.args.table.now.items c.loop-field.table.items c.number_field.new.table.items i.0 c.in_ok-number_field.ensures.table,
      numbers_more c.loop-field.table.items c.number_field.new.table.items c.args.fields.now c.loop-field.field-index c.field-item.result c.loop-field.numbers.items c.push.new.self.items c.in_ok-number_field.field-0 within c.field-item.is c.in_ok-push.ensures.items i.1 c.in_ok-number_field.ensures.table c.in_ok-number_field.ensures.number,
    )
