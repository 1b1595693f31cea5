-- The fields of a record, and those of a token.
use Rattle.std.proofs.Common.{◌≡◌, ◌∙◌, sym, ap, refl, arith, ℕ, ◌+◌, ◌++◌, ◌||◌, not, Bool, true, false, if◌then◌else◌, List, [], ◌∷◌, codes}
use Rattle.std.specs.List.{filter, flat_map, list_any, sum_by}
use Rattle.std.proofs.lemmas.List.Sums.{sum_by-cons}
use Rattle.text_forms.proofs.Chains.{nothing_after}
use Rattle.token_record.specs.Fields.{Fields, no_fields, valued, braced, chain, field_count, field_of, value_of, fields_of, value_step, field_step}
use Rattle.token_record.specs.Meaning.{keeps, without_keep, is_keep}
use Rattle.token_record.specs.Written.{quoted, written_fields}
use Rattle.token_record.specs.declared.tokens.Field.{Field, fold_out-Field}
use Rattle.token_record.specs.declared.tokens.Value.{fold_out-Value}
use Rattle.token_record.specs.declared.tokens.Value.TheOpen.{Value-F, Text, Nested}

-- a field is one with a value, or one with braces
pub data FieldCase (f : Field) : Type 0 where
  with_value : (n v : List ℕ) → ((t : Fields) → field_of f t ≡ valued n v t) → FieldCase f
  with_braces : (n : List ℕ) (inner : Fields) → ((t : Fields) → field_of f t ≡ braced n inner t) → FieldCase f

field_at : (f : Field) (n : List ℕ) (o : Value-F (List ℕ → Fields → Fields) (Fields → Fields)) → ((t : Fields) → field_of f t ≡ value_step o n t) → FieldCase f
field_at f n (Text bytes) h = with_value n bytes.items h
field_at f n (Nested fields) h = with_braces n (chain fields.items no_fields) h

pub field_case : (f : Field) → FieldCase f
field_case f =
    let e : field_of f ≡ value_of f.value f.name = fold_out-Field (List ℕ → Fields → Fields) (Fields → Fields) value_step field_step f in
    field_at f f.name _ (λ t. ap (λ g. g t) e ∙ ap (λ g. g f.name t) (fold_out-Value (List ℕ → Fields → Fields) (Fields → Fields) value_step field_step f.value))

or_false : (b : Bool) → (b || false) ≡ b
or_false true = refl
or_false false = refl

keeps_cases : (f : Field) (t : Fields) → FieldCase f → keeps (field_of f t) ≡ (keeps (field_of f no_fields) || keeps t)
keeps_cases f t (with_value n v h) = ap keeps (h t) ∙ ap (λ b. b || keeps t) (sym (ap keeps (h no_fields) ∙ or_false (is_keep n v)))
keeps_cases f t (with_braces n inner h) = ap keeps (h t) ∙ ap (λ b. b || keeps t) (sym (ap keeps (h no_fields)))

without_cases : (f : Field) (t : Fields) → FieldCase f → without_keep (field_of f t) ≡ (if keeps (field_of f no_fields) then without_keep t else field_of f (without_keep t))
without_cases f t (with_value n v h) =
    ap without_keep (h t) ∙ ap (λ z. if is_keep n v then without_keep t else z) (sym (h (without_keep t)))
    ∙ ap (λ b. if b then without_keep t else field_of f (without_keep t)) (sym (ap keeps (h no_fields) ∙ or_false (is_keep n v)))
without_cases f t (with_braces n inner h) =
    ap without_keep (h t) ∙ sym (h (without_keep t))
    ∙ ap (λ b. if b then without_keep t else field_of f (without_keep t)) (sym (ap keeps (h no_fields)))

abbrev is_keep_field : Field → Bool
is_keep_field f = keeps (field_of f no_fields)

pub some_keeps : (xs : List Field) → list_any (λ f. keeps (field_of f no_fields)) xs ≡ keeps (fields_of xs)
some_keeps [] = refl
some_keeps (x ∷ xs) = ap (λ b. keeps (field_of x no_fields) || b) (some_keeps xs) ∙ sym (keeps_cases x (fields_of xs) (field_case x))

others_step : (x : Field) (xs : List Field) (b : Bool) → keeps (field_of x no_fields) ≡ b → fields_of (filter (λ f. not (keeps (field_of f no_fields))) xs) ≡ without_keep (fields_of xs) → fields_of (if not b then x ∷ filter (λ f. not (keeps (field_of f no_fields))) xs else filter (λ f. not (keeps (field_of f no_fields))) xs) ≡ (if b then without_keep (fields_of xs) else field_of x (without_keep (fields_of xs)))
others_step x xs true e h = h
others_step x xs false e h = ap (field_of x) h

pub others_left : (xs : List Field) → fields_of (filter (λ f. not (keeps (field_of f no_fields))) xs) ≡ without_keep (fields_of xs)
others_left [] = refl
others_left (x ∷ xs) =
    others_step x xs (keeps (field_of x no_fields)) refl (others_left xs) ∙ sym (without_cases x (fields_of xs) (field_case x))

counted_cases : (f : Field) (t : Fields) → FieldCase f → field_count (field_of f t) ≡ field_count (field_of f no_fields) + field_count t
counted_cases f t (with_value n v h) =
    let a : field_count (field_of f t) ≡ 1 + field_count t = ap field_count (h t) in
    let b : field_count (field_of f no_fields) ≡ 1 = ap field_count (h no_fields) in
    omega (arith, a, b)
counted_cases f t (with_braces n inner h) =
    let a : field_count (field_of f t) ≡ field_count inner + 1 + field_count t = ap field_count (h t) in
    let b : field_count (field_of f no_fields) ≡ field_count inner + 1 + 0 = ap field_count (h no_fields) in
    omega (arith, a, b)

pub counted_each : (xs : List Field) → field_count (fields_of xs) ≡ sum_by (λ f. field_count (field_of f no_fields)) xs
counted_each [] = refl
counted_each (x ∷ xs) =
    counted_cases x (fields_of xs) (field_case x) ∙ ap (λ n. field_count (field_of x no_fields) + n) (counted_each xs)
    ∙ sym (sum_by-cons (λ f. field_count (field_of f no_fields)) x xs)

behind_front : (front w whole alone : List ℕ) → whole ≡ front ++ w → alone ≡ front ++ [] → whole ≡ alone ++ w
behind_front front w whole alone e f = e ∙ ap (λ z. z ++ w) (sym (f ∙ nothing_after front))

written_cases : (f : Field) (t : Fields) → FieldCase f → written_fields (field_of f t) ≡ written_fields (field_of f no_fields) ++ written_fields t
written_cases f t (with_value n v h) =
    behind_front (codes " " ++ n ++ codes ": " ++ quoted v) (written_fields t) (written_fields (field_of f t)) (written_fields (field_of f no_fields)) (ap written_fields (h t)) (ap written_fields (h no_fields))
written_cases f t (with_braces n inner h) =
    behind_front (codes " " ++ n ++ codes " {" ++ written_fields inner ++ codes " }") (written_fields t) (written_fields (field_of f t)) (written_fields (field_of f no_fields)) (ap written_fields (h t)) (ap written_fields (h no_fields))

pub written_each : (xs : List Field) → written_fields (fields_of xs) ≡ flat_map (λ f. written_fields (field_of f no_fields)) xs
written_each [] = refl
written_each (x ∷ xs) = written_cases x (fields_of xs) (field_case x) ∙ ap (λ z. written_fields (field_of x no_fields) ++ z) (written_each xs)
