-- Fields that are put into a table.
use Rattle.std.proofs.Common.{◌≡◌, ◌∙◌, inl, inr, sym, ap, subst, refl, arith, ℕ, zero, suc, ◌+◌, ◌≤◌, ◌<◌, List, [], ◌∷◌, ◌++◌, length, map, Some, get_or, append_assoc, length-append, Bool, true, false, if◌then◌else◌, take, Vec, Global}
use Rattle.std.specs.Prelude.{slice_get, All}
use Rattle.std.proofs.lemmas.List.{take_more, append-nil}
use Rattle.std.proofs.lemmas.List.Elements.{All-nil, All-cons, All-head, All-tail, All-append, All-push}
use Rattle.state_table.proofs.Numbering.{keeps_refl, keeps_trans, keeps_push, pushed_cases}
use Rattle.token_record.specs.Fields.{Fields, no_fields, valued, braced, chain, field_of, fields_of, value_of, value_step, field_step}
use Rattle.token_record.specs.declared.tokens.Field.{Field, size-Field, fold_out-Field}
use Rattle.token_record.specs.declared.tokens.Value.TheVariants as variants
use Rattle.token_record.specs.declared.tokens.Value.TheOpen as layer
use Rattle.token_record.specs.declared.tokens.Value.TheFolds.{fold-roll-Value}
use denote.Param.Weighed.{most, at_most}
use Rattle.token_record.proofs.Records.{FieldCase, with_value, with_braces, field_case}
use Rattle.token_record.specs.Writable.{AreBytes}
use Rattle.field_orders.specs.Orders.{escape, escaped, is_marked}
use Rattle.field_orders.specs.Remainders.{Written, IsWritten, AreWritten}
use Rattle.field_orders.specs.Tables as tables
use Rattle.field_orders.specs.Tables.{Stands, value, braces, StandsFor, StandFor, Grown, NumberOf, NumbersOf, Added, value_text, brace_text}

at_end : {A : Type 0} (xs : List A) (y : A) → slice_get (xs ++ y ∷ []) (length xs) ≡ Some y
at_end [] y = refl
at_end (x ∷ xs) y = at_end xs y

-- the same text and numbers in a longer table
pub widened : (s t : List Written) (p : Written) → length s ≤ length t → IsWritten s p → IsWritten t p
widened s t p l h = record { some = h.some; bytes = h.bytes; inner = λ k d m. omega (arith, l, h.inner k d m) }

pub grown_refl : (t : List Written) → Grown t t
grown_refl t = record { keeps = keeps_refl t; more = omega arith; sound = λ h. h }

pub grown_trans : (a b c : List Written) → Grown a b → Grown b c → Grown a c
grown_trans a b c f g = record { keeps = keeps_trans f.keeps g.keeps; more = (let p = f.more in let q = g.more in omega (arith, p, q)); sound = λ h. g.sound (f.sound h) }

pub added_grown : (old new : List Written) (p : Written) (k : ℕ) → Added old new p k → (AreWritten old → IsWritten old p) → Grown old new
added_grown old new p k a w = subst (Grown old) (sym a.is) (record {
  keeps = keeps_push old p;
  more = longer;
  sound = λ h j e at. elim (pushed_cases old p j e at) [
    | inl f ↦ widened old (old ++ p ∷ []) e longer (h j e f)
    | inr f ↦ subst (IsWritten (old ++ p ∷ [])) (sym f.0) (widened old (old ++ p ∷ []) p longer (w h))
  ];
}) where
  longer : length old ≤ length (old ++ p ∷ [])
  longer = let q = length-append old (p ∷ []) in omega (arith, q)

pub added_at : (old new : List Written) (p : Written) (k : ℕ) → Added old new p k → slice_get new k ≡ Some p
added_at old new p k a = ap (λ t. slice_get t k) a.is ∙ ap (slice_get (old ++ p ∷ [])) a.number ∙ at_end old p

pub added_within : (old new : List Written) (p : Written) (k : ℕ) → Added old new p k → k < length new
added_within old new p k a = let e = a.number in let q = ap length a.is ∙ length-append old (p ∷ []) in omega (arith, e, q)

bytes_escaped : (v : List ℕ) → All (λ b. 1 ≤ b) v → All (λ b. 1 ≤ b) (escaped v)
bytes_escaped [] h = h
bytes_escaped (b ∷ v) h = All-append (λ d. 1 ≤ d) (escape b) (escaped v) (one (is_marked b)) (bytes_escaped v (All-tail (λ d. 1 ≤ d) b v h)) where
  it : 1 ≤ b
  it = All-head (λ d. 1 ≤ d) b v h

  one : (c : Bool) → All (λ d. 1 ≤ d) (if c then 92 ∷ b ∷ [] else b ∷ [])
  one true = All-cons (λ d. 1 ≤ d) 92 (b ∷ []) (omega arith) (All-cons (λ d. 1 ≤ d) b [] it (All-nil (λ d. 1 ≤ d)))
  one false = All-cons (λ d. 1 ≤ d) b [] it (All-nil (λ d. 1 ≤ d))

some_bytes : (n z : List ℕ) (b : ℕ) → 0 < length (n ++ b ∷ z)
some_bytes n z b = let q = length-append n (b ∷ z) in omega (arith, q)

value_written : (t : List Written) (n v : List ℕ) → All (λ b. 1 ≤ b) n → All (λ b. 1 ≤ b) v → IsWritten t (record { text = value_text n v; inner = []; braced = false })
value_written t n v h g = record {
  some = some_bytes n (escaped v ++ 124 ∷ []) 58;
  bytes = All-append (λ b. 1 ≤ b) n (58 ∷ (escaped v ++ 124 ∷ [])) h (All-cons (λ b. 1 ≤ b) 58 (escaped v ++ 124 ∷ []) (omega arith) (All-push (λ b. 1 ≤ b) (escaped v) 124 (bytes_escaped v g) (omega arith)));
  inner = All-nil (λ k. k < length t);
}

brace_written : (t : List Written) (n is : List ℕ) → All (λ b. 1 ≤ b) n → All (λ k. k < length t) is → IsWritten t (record { text = brace_text n; inner = is; braced = true })
brace_written t n is h g = record { some = some_bytes n [] 123; bytes = All-push (λ b. 1 ≤ b) n 123 h (omega arith); inner = g }

-- a field with a value
pub value_numbered : (old new : List Written) (k : ℕ) (f : Field) (n v : List ℕ) → ((t : Fields) → field_of f t ≡ valued n v t) → AreBytes (field_of f no_fields)
    → Added old new (record { text = value_text n v; inner = []; braced = false }) k → Grown old new × NumberOf new k (field_of f)
value_numbered old new k f n v is bytes a =
    let b : AreBytes (valued n v no_fields) = subst AreBytes (is no_fields) bytes in (
      added_grown old new _ k a (λ h. value_written old n v b.0 b.1),
      record {
        within = added_within old new _ k a;
        stands = λ u keeps ks fs s. subst (Stands u (k ∷ ks)) (sym (is fs)) (value (keeps.kept k _ (added_at old new _ k a)) s);
      },
    )

-- a field with braces
pub braces_numbered : (first old new : List Written) (k : ℕ) (f : Field) (n is : List ℕ) (inner : Fields → Fields) → ((t : Fields) → field_of f t ≡ braced n (inner no_fields) t) → AreBytes (field_of f no_fields)
    → Grown first old → NumbersOf old is inner → Added old new (record { text = brace_text n; inner = is; braced = true }) k → Grown first new × NumberOf new k (field_of f)
braces_numbered first old new k f n is inner eq bytes grown numbers a =
    let b : AreBytes (braced n (inner no_fields) no_fields) = subst AreBytes (eq no_fields) bytes in
    let more = added_grown old new _ k a (λ h. brace_written old n is b.0 numbers.within) in (
      grown_trans first old new grown more,
      record {
        within = added_within old new _ k a;
        stands = λ u keeps ks fs s.
            let inside : Stands u is (inner no_fields) = subst (λ z. Stands u z (inner no_fields)) (append-nil is) (numbers.stand u (keeps_trans more.keeps keeps) [] no_fields tables.none) in
            subst (Stands u (k ∷ ks)) (sym (eq fs)) (braces (keeps.kept k _ (added_at old new _ k a)) inside s);
      },
    )

bytes_split : (f : Field) (t : Fields) → FieldCase f → AreBytes (field_of f t) → AreBytes (field_of f no_fields) × AreBytes t
bytes_split f t (with_value n v h) b = let c = subst AreBytes (h t) b in (subst AreBytes (sym (h no_fields)) (c.0, c.1, tt), c.2)
bytes_split f t (with_braces n inner h) b = let c = subst AreBytes (h t) b in (subst AreBytes (sym (h no_fields)) (c.0, c.1, tt), c.2)

-- one of several fields has no byte 0
pub bytes_at : (xs : List Field) (i : ℕ) (x : Field) → i < length xs → x ≡ get_or xs i x → AreBytes (fields_of xs) → AreBytes (field_of x no_fields)
bytes_at [] i x l e b = absurd (omega (arith, l))
bytes_at (y ∷ xs) zero x l e b = subst (λ z. AreBytes (field_of z no_fields)) (sym e) (bytes_split y (fields_of xs) (field_case y) b).0
bytes_at (y ∷ xs) (suc i) x l e b = bytes_at xs i x (omega (arith, l)) e (bytes_split y (fields_of xs) (field_case y) b).1

chain_end : (xs : List Field) (x : Field) (t : Fields) → chain (map field_of (xs ++ x ∷ [])) t ≡ chain (map field_of xs) (field_of x t)
chain_end [] x t = refl
chain_end (y ∷ xs) x t = ap (field_of y) (chain_end xs x t)

pub none_numbered : (t : List Written) → NumbersOf t [] (chain [])
none_numbered t = record { within = All-nil (λ k. k < length t); stand = λ u keeps ks fs s. s }

pub numbers_more : (a b : List Written) (xs : List Field) (i : ℕ) (x : Field) (js ks : List ℕ) (k : ℕ) → i < length xs → x ≡ get_or xs i x → ks ≡ js ++ k ∷ []
    → NumbersOf a js (chain (map field_of (take i xs))) → Grown a b → NumberOf b k (field_of x) → NumbersOf b ks (chain (map field_of (take (i + 1) xs)))
numbers_more a b xs i x js ks k l e same h g n =
    subst (λ z. NumbersOf b z (chain (map field_of (take (i + 1) xs)))) (sym same)
    (subst (λ z. NumbersOf b (js ++ k ∷ []) (chain (map field_of z))) (sym (take_more xs i x l ∙ ap (λ z. take i xs ++ z ∷ []) (sym e))) (record {
      within = All-push (λ j. j < length b) js k (λ j d m. let p = g.more in omega (arith, p, h.within j d m)) n.within;
      stand = λ u keeps vs fs s.
          let one : Stands u (k ∷ vs) (field_of x fs) = n.stands u keeps vs fs s in
          let all : Stands u (js ++ k ∷ vs) (chain (map field_of (take i xs)) (field_of x fs)) = h.stand u (keeps_trans g.keeps keeps) (k ∷ vs) (field_of x fs) one in
          subst (λ z. Stands u z (chain (map field_of (take i xs ++ x ∷ [])) fs)) (sym (append_assoc js (k ∷ []) vs)) (subst (Stands u (js ++ k ∷ vs)) (sym (chain_end (take i xs) x fs)) all);
    }))

-- a field is no deeper than the deepest
pub field_depth : (xs : List Field) (i : ℕ) (x : Field) → i < length xs → x ≡ get_or xs i x → size-Field x ≤ most size-Field xs
field_depth xs i x l e = subst (λ v. size-Field v ≤ most size-Field xs) (sym e) (at_most size-Field xs i x l)

field_value : (f : Field) (t : Fields) → field_of f t ≡ value_of f.value f.name t
field_value f t = ap (λ g. g t) (fold_out-Field (List ℕ → Fields → Fields) (Fields → Fields) value_step field_step f)

-- a field whose value is some bytes
pub is_valued : (f : Field) (v : Vec ℕ Global) → f.value ≡ variants.Text v → (t : Fields) → field_of f t ≡ valued f.name v.items t
is_valued f v e t =
    field_value f t ∙ ap (λ z. value_of z f.name t) (e ∙ sym (variants.rolls-Text v)) ∙ ap (λ g. g f.name t) (fold-roll-Value (List ℕ → Fields → Fields) (Fields → Fields) value_step field_step (layer.Text v))

-- a field whose value is fields in braces
pub is_braced : (f : Field) (fs : Vec Field Global) → f.value ≡ variants.Nested fs → (t : Fields) → field_of f t ≡ braced f.name (fields_of fs.items) t
is_braced f fs e t =
    field_value f t ∙ ap (λ z. value_of z f.name t) (e ∙ sym (variants.rolls-Nested fs)) ∙ ap (λ g. g f.name t) (fold-roll-Value (List ℕ → Fields → Fields) (Fields → Fields) value_step field_step (layer.Nested fs))
