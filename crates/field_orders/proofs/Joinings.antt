-- Fields in some order are the joined texts of a record's fields.
use Rattle.std.proofs.Common.{◌≡◌, ◌∙◌, sym, ap, subst, refl, arith, ℕ, zero, suc, ◌<◌, List, [], ◌∷◌, ◌++◌, length, Some, None, get_or, append_assoc, Bool, true, false}
use Rattle.std.specs.Prelude.{◌↔◌, slice_get}
use Rattle.std.specs.List.{remove}
use Rattle.std.proofs.lemmas.Option.{get_or_from_slice_get}
use Rattle.std.proofs.lemmas.List.{append-nil}
use Rattle.token_record.specs.Fields.{Fields}
use Rattle.field_orders.specs.Orders.{Rearranged, none, first, Ordered, joined, Texts, Joining}
use Rattle.field_orders.specs.Remainders.{Written, closing, choices, field_at, unwritten}
use Rattle.field_orders.specs.Tables.{Stands, value_text, brace_text}
use Rattle.field_orders.specs.Tables as tables
use Rattle.field_orders.proofs.Writings.{Orderly}
use Rattle.field_orders.proofs.Writings as orderly

-- a text of a field
pub record TextOf (t : List Written) (keep : Bool) (p : Written) (x : List ℕ) : Type 0 where
  pub inner : List ℕ
  pub is : x ≡ p.text ++ (inner ++ closing p.braced)
  pub orderly : Orderly t keep p.inner inner

-- a text of each field
abbrev Each : List Written → Bool → List ℕ → List (List ℕ) → Type 0
Each t keep [] [] = Unit {0}
Each t keep [] (x ∷ xs) = ⊥
Each t keep (k ∷ ks) [] = ⊥
Each t keep (k ∷ ks) (x ∷ xs) = TextOf t keep (field_at t k) x × Each t keep ks xs

-- the text at a place, and those of the other fields
each_at : (t : List Written) (keep : Bool) (ks : List ℕ) (xs : List (List ℕ)) → Each t keep ks xs → (i : ℕ) (x : List ℕ) → slice_get xs i ≡ Some x → (i < length ks) × TextOf t keep (field_at t (get_or ks i 0)) x × Each t keep (remove ks i) (remove xs i)
each_at t keep [] [] h i x e = absurd (let n : None ≡ Some x = e in cc)
each_at t keep [] (y ∷ xs) h i x e = absurd h
each_at t keep (k ∷ ks) [] h i x e = absurd h
each_at t keep (k ∷ ks) (y ∷ xs) h zero x e = (omega arith, subst (TextOf t keep (field_at t k)) (let n : Some y ≡ Some x = e in cc) h.0, h.1)
each_at t keep (k ∷ ks) (y ∷ xs) h (suc i) x e = let r = each_at t keep ks xs h.1 i x e in (omega (arith, r.0), r.1, (h.0, r.2))

-- texts of all fields, of one and those of the others
each_with : (t : List Written) (keep : Bool) (ks : List ℕ) (i : ℕ) (x : List ℕ) (xs : List (List ℕ)) → i < length ks → Each t keep (remove ks i) xs → TextOf t keep (field_at t (get_or ks i 0)) x → (ys : List (List ℕ)) × Each t keep ks ys × (slice_get ys i ≡ Some x) × (remove ys i ≡ xs)
each_with t keep [] i x xs l h e = absurd (omega (arith, l))
each_with t keep (k ∷ ks) zero x xs l h e = (x ∷ xs, (e, h), refl, refl)
each_with t keep (k ∷ ks) (suc i) x [] l h e = absurd h
each_with t keep (k ∷ ks) (suc i) x (y ∷ xs) l h e = let r = each_with t keep ks i x xs (omega (arith, l)) h.1 e in (y ∷ r.0, (h.0, r.1), r.2, ap (λ z. y ∷ z) r.3)

choices_any : (ks : List ℕ) → choices false ks ≡ length ks
choices_any [] = refl
choices_any (k ∷ ks) = refl

no_fields_first : (t : List Written) (keep : Bool) (ks : List ℕ) → Each t keep ks [] → Orderly t keep ks []
no_fields_first t keep [] h = orderly.none
no_fields_first t keep (k ∷ ks) h = absurd h

-- one field's text before those of the others
put : (t : List Written) (keep : Bool) (ks : List ℕ) (i : ℕ) (x y : List ℕ) → i < choices keep ks → TextOf t keep (field_at t (get_or ks i 0)) x → Orderly t keep (remove ks i) y → Orderly t keep ks (x ++ y)
put t keep ks i x y l e h =
    let p = field_at t (get_or ks i 0) in
    let same : x ++ y ≡ p.text ++ (e.inner ++ (closing p.braced ++ y)) = ap (λ z. z ++ y) e.is ∙ append_assoc p.text (e.inner ++ closing p.braced) y ∙ ap (λ z. p.text ++ z) (append_assoc e.inner (closing p.braced) y) in
    subst (Orderly t keep ks) (sym same) (orderly.first i l e.orderly h)

in_any_order : (t : List Written) (ks : List ℕ) {xs us : List (List ℕ)} → Each t false ks xs → Rearranged xs us → Orderly t false ks (joined us)
in_any_order t ks h none = no_fields_first t false ks h
in_any_order t ks h (first {x} {xs} {ys} i e r) =
    let a = each_at t false ks xs h i x e in
    put t false ks i x (joined ys) (subst (λ n. i < n) (sym (choices_any ks)) a.0) a.1 (in_any_order t (remove ks i) a.2 r)

in_order : (t : List Written) (ks : List ℕ) (xs : List (List ℕ)) → Each t true ks xs → Orderly t true ks (joined xs)
in_order t ks [] h = no_fields_first t true ks h
in_order t [] (x ∷ xs) h = absurd h
in_order t (k ∷ ks) (x ∷ xs) h = put t true (k ∷ ks) 0 x (joined xs) (omega arith) h.0 (in_order t ks xs h.1)

-- texts of each field, joined in an order
ordered : (t : List Written) (keep : Bool) (ks : List ℕ) (xs us : List (List ℕ)) → Each t keep ks xs → Ordered keep xs us → Orderly t keep ks (joined us)
ordered t true ks xs us h o = subst (λ v. Orderly t true ks (joined v)) (sym o) (in_order t ks xs h)
ordered t false ks xs us h o = in_any_order t ks h o

record Parted (t : List Written) (keep : Bool) (ks : List ℕ) (x : List ℕ) : Type 0 where
  pub texts : List (List ℕ)
  pub order : List (List ℕ)
  pub each : Each t keep ks texts
  pub ordered : Ordered keep texts order
  pub text : x ≡ joined order

part_text : (t : List Written) (keep : Bool) (p : Written) (x : List ℕ) → Orderly t keep p.inner x → TextOf t keep p (p.text ++ (x ++ closing p.braced))
part_text t keep p x h = record { inner = x; is = refl; orderly = h }

first_joined : (t : List Written) (keep : Bool) (p : Written) (xa xb : List ℕ) (us : List (List ℕ)) → xb ≡ joined us → p.text ++ (xa ++ (closing p.braced ++ xb)) ≡ joined ((p.text ++ (xa ++ closing p.braced)) ∷ us)
first_joined t keep p xa xb us e =
    ap (λ z. p.text ++ (xa ++ (closing p.braced ++ z))) e ∙ sym (append_assoc p.text (xa ++ closing p.braced) (joined us) ∙ ap (λ z. p.text ++ z) (append_assoc xa (closing p.braced) (joined us)))

kept_first : (i : ℕ) (ks : List ℕ) → i < choices true ks → i ≡ 0
kept_first i [] l = omega (arith, l)
kept_first i (k ∷ ks) l = omega (arith, l)

parted_more : (t : List Written) (keep : Bool) (ks : List ℕ) (xa xb : List ℕ) (i : ℕ) → i < choices keep ks → Orderly t keep (field_at t (get_or ks i 0)).inner xa → Parted t keep (remove ks i) xb
    → Parted t keep ks ((field_at t (get_or ks i 0)).text ++ (xa ++ (closing (field_at t (get_or ks i 0)).braced ++ xb)))
parted_more t false ks xa xb i l a b =
    let p = field_at t (get_or ks i 0) in
    let x = p.text ++ (xa ++ closing p.braced) in
    let w = each_with t false ks i x b.texts (subst (λ n. i < n) (choices_any ks) l) b.each (part_text t false p xa a) in
    record {
      texts = w.0;
      order = x ∷ b.order;
      each = w.1;
      ordered = first i w.2 (subst (λ v. Rearranged v b.order) (sym w.3) b.ordered);
      text = first_joined t false p xa xb b.order b.text;
    }
parted_more t true [] xa xb i l a b = absurd (omega (arith, l))
parted_more t true (k ∷ ks) xa xb i l a b = subst (λ j. Parted t true (remove (k ∷ ks) j) xb → Orderly t true (field_at t (get_or (k ∷ ks) j 0)).inner xa → Parted t true (k ∷ ks) ((field_at t (get_or (k ∷ ks) j 0)).text ++ (xa ++ (closing (field_at t (get_or (k ∷ ks) j 0)).braced ++ xb)))) (sym (kept_first i (k ∷ ks) l)) at_first b a where
  at_first : Parted t true ks xb → Orderly t true (field_at t k).inner xa → Parted t true (k ∷ ks) ((field_at t k).text ++ (xa ++ (closing (field_at t k).braced ++ xb)))
  at_first b a =
      let p = field_at t k in
      let x = p.text ++ (xa ++ closing p.braced) in
      record {
        texts = x ∷ b.texts;
        order = x ∷ b.order;
        each = (part_text t true p xa a, b.each);
        ordered = ap (λ z. x ∷ z) b.ordered;
        text = first_joined t true p xa xb b.order b.text;
      }

nothing_parted : (t : List Written) (keep : Bool) → Parted t keep [] []
nothing_parted t true = record { texts = []; order = []; each = tt; ordered = refl; text = refl }
nothing_parted t false = record { texts = []; order = []; each = tt; ordered = none; text = refl }

parted : (t : List Written) (keep : Bool) {ks x : List ℕ} → Orderly t keep ks x → Parted t keep ks x
parted t keep orderly.none = nothing_parted t keep
parted t keep (orderly.first {ks} {xa} {xb} i l a b) = parted_more t keep ks xa xb i l a (parted t keep b)

at_number : (t : List Written) (k : ℕ) (p : Written) → slice_get t k ≡ Some p → field_at t k ≡ p
at_number t k p e = get_or_from_slice_get t k p unwritten e

-- the field's text with nothing inside
value_is : (t : List Written) (keep : Bool) (n v x : List ℕ) → TextOf t keep (record { text = value_text n v; inner = []; braced = false }) x → x ≡ value_text n v
value_is t keep n v x h = h.is ∙ ap (λ z. value_text n v ++ (z ++ [])) (nothing_inside h.orderly) ∙ append-nil (value_text n v) where
  nothing_inside : {y : List ℕ} → Orderly t keep [] y → y ≡ []
  nothing_inside orderly.none = refl
  nothing_inside (orderly.first i l a b) = absurd (omega (arith, l))

is_value : (t : List Written) (keep : Bool) (n v x : List ℕ) → x ≡ value_text n v → TextOf t keep (record { text = value_text n v; inner = []; braced = false }) x
is_value t keep n v x e = record { inner = []; is = e ∙ sym (append-nil (value_text n v)); orderly = orderly.none }

module _ (t : List Written) (keep : Bool) where
  texts_each : {ks : List ℕ} {fs : Fields} → Stands t ks fs → (xs : List (List ℕ)) → Texts keep fs xs → Each t keep ks xs
  texts_each tables.none [] h = tt
  texts_each tables.none (x ∷ xs) h = absurd h
  texts_each (tables.value e s) [] h = absurd h
  texts_each (tables.value {k} {n} {v} e s) (x ∷ xs) h = (subst (λ p. TextOf t keep p x) (sym (at_number t k _ e)) (is_value t keep n v x h.0), texts_each s xs h.1)
  texts_each (tables.braces e i s) [] h = absurd h
  texts_each (tables.braces {k} {n} {is} e i s) (x ∷ xs) h =
      let us = h.0.0 in
      let order = h.0.1 in
      let inside : TextOf t keep (record { text = brace_text n; inner = is; braced = true }) x = record {
        inner = joined order;
        is = h.0.4 ∙ sym (append_assoc n (123 ∷ []) (joined order ++ 125 ∷ 124 ∷ []));
        orderly = ordered t keep is us order (texts_each i us h.0.2) h.0.3;
      } in
      (subst (λ p. TextOf t keep p x) (sym (at_number t k _ e)) inside, texts_each s xs h.1)

  each_texts : {ks : List ℕ} {fs : Fields} → Stands t ks fs → (xs : List (List ℕ)) → Each t keep ks xs → Texts keep fs xs
  each_texts tables.none [] h = tt
  each_texts tables.none (x ∷ xs) h = absurd h
  each_texts (tables.value e s) [] h = absurd h
  each_texts (tables.value {k} {n} {v} e s) (x ∷ xs) h = (value_is t keep n v x (subst (λ p. TextOf t keep p x) (at_number t k _ e) h.0), each_texts s xs h.1)
  each_texts (tables.braces e i s) [] h = absurd h
  each_texts (tables.braces {k} {n} {is} e i s) (x ∷ xs) h =
      let inside : TextOf t keep (record { text = brace_text n; inner = is; braced = true }) x = subst (λ p. TextOf t keep p x) (at_number t k _ e) h.0 in
      let q = parted t keep inside.orderly in
      let is_text : x ≡ n ++ 123 ∷ (joined q.order ++ 125 ∷ 124 ∷ []) = inside.is ∙ append_assoc n (123 ∷ []) (inside.inner ++ 125 ∷ 124 ∷ []) ∙ ap (λ z. n ++ 123 ∷ (z ++ 125 ∷ 124 ∷ [])) q.text in
      ((q.texts, q.order, each_texts i q.texts q.each, q.ordered, is_text), each_texts s xs h.1)

  -- in some order, and joined
  pub orderly_joining : {ks : List ℕ} {fs : Fields} → Stands t ks fs → (x : List ℕ) → Orderly t keep ks x ↔ Joining keep fs x
  orderly_joining {ks} s x = (
    λ h. let q = parted t keep h in record { texts = q.texts; order = q.order; of_each = each_texts s q.texts q.each; ordered = q.ordered; text = q.text },
    λ j. subst (Orderly t keep ks) (sym j.text) (ordered t keep ks j.texts j.order (texts_each s j.texts j.of_each) j.ordered),
  )
