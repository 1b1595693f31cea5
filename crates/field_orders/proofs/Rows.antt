-- The arcs of states.
use Rattle.std.proofs.Common.{◌≡◌, ◌∙◌, inl, inr, sym, ap, subst, refl, ℕ, zero, suc, ◌+◌, ◌≤◌, ◌<◌, List, [], ◌∷◌, ◌++◌, length, Some, None, get_or, length-append, Bool}
use Rattle.std.specs.Prelude.{slice_get, drop, take, All}
use Rattle.std.specs.List.{remove}
use Rattle.std.proofs.lemmas.Option.{slice_get_within, slice_get-get_or, get_or_from_slice_get}
use Rattle.std.proofs.lemmas.List.{drop_more}
use Rattle.std.proofs.lemmas.List.Elements.{All-append, All-take, All-drop}
use Rattle.weighted_relations.specs.declared.Arc.{Arc}
use Rattle.fst_core.specs.Placed.{label_arc}
use Rattle.state_table.specs.Numbers.{Keeps}
use Rattle.state_table.proofs.Numbering.{pushed_cases}
use Rattle.field_orders.specs.declared.states.State.{State}
use Rattle.field_orders.specs.declared.states.State.TheVariants.{End, Byte, Text, Fields}
use Rattle.field_orders.specs.Remainders.{Written, Rest, nothing, byte, fields, bytes_then, fields_then, field_at, unwritten, closing, behind, taken, chosen, arc_at, arc_count, choices}
use Rattle.field_orders.specs.Sources.{Means, at_end, at_byte, at_text, at_fields, Grew, Makes, ArcSays, RowSays, RowTo}
use Rattle.field_orders.proofs.Stating.{means_kept, grew_refl, grew_trans, makes_both}

pub is_at : (t : List Written) (k : ℕ) (p : Written) → k < length t → p ≡ get_or t k p → field_at t k ≡ p
is_at t k p l e = get_or_from_slice_get t k p unwritten (slice_get-get_or t k p l ∙ ap Some (sym e))

pub is_there : (t : List Written) (k : ℕ) (p : Written) → k < length t → p ≡ get_or t k p → slice_get t k ≡ Some p
is_there t k p l e = slice_get-get_or t k p l ∙ ap Some (sym e)

pub all_others : (n : ℕ) (xs : List ℕ) (i : ℕ) → All (λ j. j < n) xs → All (λ j. j < n) (remove xs i)
all_others n xs i h = All-append (λ j. j < n) (take i xs) (drop (suc i) xs) (All-take (λ j. j < n) i xs h) (All-drop (λ j. j < n) (suc i) xs h)

-- what follows a field's text
pub makes_behind : (t : List Written) (s0 s1 s2 s3 : List State) (q p : Written) (others : List ℕ) (n a c k : ℕ) → q ≡ p → Makes t s0 s1 n a (fields_then others) → Makes t s1 s2 a c (bytes_then (closing q.braced)) → Makes t s2 s3 c k (fields_then q.inner) → Makes t s0 s3 n k (behind p others)
makes_behind t s0 s1 s2 s3 q p others n a c k e f g h =
    subst (λ z. Makes t s0 s3 n k (behind z others)) e (makes_both t s0 s2 s3 n c k (λ r. bytes_then (closing q.braced) (fields_then others r)) (fields_then q.inner) (makes_both t s0 s1 s2 n a c (fields_then others) (bytes_then (closing q.braced)) f g) h)

pub arc_kept : (t : List Written) (old new : List State) (a : Arc) (c : ℕ × Rest) → Keeps old new → ArcSays t old a c → ArcSays t new a c
arc_kept t old new a c k h = record { input = h.input; output = h.output; weight = h.weight; small = h.small; next = means_kept t old new k h.next }

pub label_says : (t : List Written) (s : List State) (b k : ℕ) (c : ℕ × Rest) → b ≤ 255 → b ≡ c.0 → Means t s k c.1 → ArcSays t s (label_arc b k) c
label_says t s b k c l e m = record { input = e; output = e; weight = refl; small = l; next = m }

-- the arc of a field that comes next
pub taken_says : (t : List Written) (s0 s1 s2 : List State) (p : Written) (f : ℕ) (others : List ℕ) (b n a k : ℕ) → field_at t f ≡ p → b ≤ 255 → b ≡ get_or p.text 0 0 → Makes t s0 s1 n a (behind p others) → Makes t s1 s2 a k (bytes_then (drop 1 (field_at t f).text))
    → (r : Rest) → Means t s0 n r → ArcSays t s2 (label_arc b k) (taken t f others r)
taken_says t s0 s1 s2 p f others b n a k is l e g h r m =
    label_says t s2 b k (taken t f others r) l (e ∙ ap (λ z. get_or z.text 0 0) (sym is))
    (h.means (behind (field_at t f) others r) (subst (λ z. Means t s1 a (behind z others r)) (sym is) (g.means r m)))

pub one_row : (t : List Written) (keep : Bool) (s : List State) (a : Arc) (r : Rest) → arc_count keep r ≡ 1 → ArcSays t s a (arc_at t r 0) → RowSays t keep s (a ∷ []) r
one_row t keep s a r e h = record { count = sym e; each = at } where
  at : (k : ℕ) (b : Arc) → slice_get (a ∷ []) k ≡ Some b → ArcSays t s b (arc_at t r k)
  at zero b f = subst (λ z. ArcSays t s z (arc_at t r 0)) (let g : Some a ≡ Some b = f in cc) h
  at (suc k) b f = absurd (let g : None ≡ Some b = f in cc)

-- the arc of a byte of a text
pub text_says : (t : List Written) (keep : Bool) (s0 s1 : List State) (z : List ℕ) (i b n k : ℕ) → i < length z → b ≤ 255 → b ≡ get_or z i 0 → Makes t s0 s1 n k (bytes_then (drop (i + 1) z)) → (r : Rest) → Means t s0 n r → RowSays t keep s1 (label_arc b k ∷ []) (bytes_then (drop i z) r)
text_says t keep s0 s1 z i b n k l small e h r m =
    subst (λ v. RowSays t keep s1 (label_arc b k ∷ []) (bytes_then v r)) (sym (drop_more z i 0 l))
    (one_row t keep s1 (label_arc b k) (byte (get_or z i 0) (bytes_then (drop (i + 1) z) r)) refl (label_says t s1 b k (get_or z i 0, bytes_then (drop (i + 1) z) r) small e (h.means r m)))

pub row_none : (t : List Written) (s : List State) (left : List ℕ) (n : ℕ) → RowTo t s s left n 0 []
row_none t s left n = record { grew = grew_refl t s; count = refl; each = λ r m k a e. absurd (let g : None ≡ Some a = e in cc) }

pub row_more : (t : List Written) (old mid new : List State) (left : List ℕ) (n i f : ℕ) (others : List ℕ) (row all : List Arc) (a : Arc) → f ≡ get_or left i 0 → others ≡ remove left i → all ≡ row ++ a ∷ []
    → RowTo t old mid left n i row → Grew t mid new → ((r : Rest) → Means t mid n r → ArcSays t new a (taken t f others r)) → RowTo t old new left n (i + 1) all
row_more t old mid new left n i f others row all a ef eo ea h g s = subst (RowTo t old new left n (i + 1)) (sym ea) (record {
  grew = grew_trans t old mid new h.grew g;
  count = length-append row (a ∷ []) ∙ ap (λ z. z + 1) h.count;
  each = λ r m k b e. elim (pushed_cases row a k b e) [
    | inl q ↦ arc_kept t mid new b (chosen t left r k) g.keeps (h.each r m k b q)
    | inr q ↦
        let it : ArcSays t new a (chosen t left r i) = subst (λ z. ArcSays t new a (taken t z (remove left i) r)) ef (subst (λ z. ArcSays t new a (taken t f z r)) eo (s r (means_kept t old mid h.grew.keeps m))) in
        subst (λ z. ArcSays t new z (chosen t left r k)) (sym q.0) (subst (λ z. ArcSays t new a (chosen t left r z)) (sym (q.1 ∙ h.count)) it)
  ];
})

-- what a state says
pub means_end : (t : List Written) (s : List State) (k : ℕ) {r : Rest} → slice_get s k ≡ Some End → Means t s k r → r ≡ nothing
means_end t s k e (at_end f) = refl
means_end t s k e (at_byte f m) = absurd (cc)
means_end t s k e (at_text f a b m) = absurd (cc)
means_end t s k e (at_fields f a m) = absurd (cc)

pub means_byte : (t : List Written) (s : List State) (k b n : ℕ) {r : Rest} → slice_get s k ≡ Some (Byte b n) → Means t s k r → (u : Rest) × (r ≡ byte b u) × Means t s n u
means_byte t s k b n e (at_end f) = absurd (cc)
means_byte t s k b n e (at_byte {b = c} {n = j} {r} f m) = let p : c ≡ b = cc in let q : j ≡ n = cc in (r, ap (λ z. byte z r) p, subst (λ z. Means t s z r) q m)
means_byte t s k b n e (at_text f a c m) = absurd (cc)
means_byte t s k b n e (at_fields f a m) = absurd (cc)

-- a text, and what follows it
pub record TextSays (t : List Written) (s : List State) (p i n : ℕ) (r : Rest) : Type 0 where
  pub field : p < length t
  pub from : i < length (field_at t p).text
  pub after : Rest
  pub is : r ≡ bytes_then (drop i (field_at t p).text) after
  pub means : Means t s n after

pub means_text : (t : List Written) (s : List State) (k p i n : ℕ) {r : Rest} → slice_get s k ≡ Some (Text p i n) → Means t s k r → TextSays t s p i n r
means_text t s k p i n e (at_end f) = absurd (cc)
means_text t s k p i n e (at_byte f m) = absurd (cc)
means_text t s k p i n e (at_text {p = q} {i = j} {n = o} {r} f a b m) =
    let x : q ≡ p = cc in
    let y : j ≡ i = cc in
    let z : o ≡ n = cc in
    let here : TextSays t s q j o (bytes_then (drop j (field_at t q).text) r) = record { field = a; from = b; after = r; is = refl; means = m } in
    subst (λ v. TextSays t s p i v (bytes_then (drop j (field_at t q).text) r)) z (subst (λ v. TextSays t s p v o (bytes_then (drop j (field_at t q).text) r)) y (subst (λ v. TextSays t s v j o (bytes_then (drop j (field_at t q).text) r)) x here))
means_text t s k p i n e (at_fields f a m) = absurd (cc)

-- fields in some order, and what follows them
pub record FieldsSay (t : List Written) (s : List State) (ks : List ℕ) (n : ℕ) (r : Rest) : Type 0 where
  pub within : All (λ i. i < length t) ks
  pub after : Rest
  pub is : r ≡ fields ks after
  pub means : Means t s n after

pub means_fields : (t : List Written) (s : List State) (k : ℕ) (ks : List ℕ) (n : ℕ) {r : Rest} → slice_get s k ≡ Some (Fields ks n) → Means t s k r → FieldsSay t s ks n r
means_fields t s k ks n e (at_end f) = absurd (cc)
means_fields t s k ks n e (at_byte f m) = absurd (cc)
means_fields t s k ks n e (at_text f a b m) = absurd (cc)
means_fields t s k ks n e (at_fields {j} {n = o} {ks = js} {r} f a m) =
    let x : (j ∷ js) ≡ ks = cc in
    let z : o ≡ n = cc in
    let here : FieldsSay t s (j ∷ js) o (fields (j ∷ js) r) = record { within = a; after = r; is = refl; means = m } in
    subst (λ v. FieldsSay t s ks v (fields (j ∷ js) r)) z (subst (λ v. FieldsSay t s v o (fields (j ∷ js) r)) x here)

pub means_within : (t : List Written) (s : List State) (k : ℕ) {r : Rest} → Means t s k r → k < length s
means_within t s k (at_end f) = slice_get_within s k _ f
means_within t s k (at_byte f m) = slice_get_within s k _ f
means_within t s k (at_text f a b m) = slice_get_within s k _ f
means_within t s k (at_fields f a m) = slice_get_within s k _ f

pub row_end : (t : List Written) (keep : Bool) (s : List State) (k : ℕ) (r : Rest) → slice_get s k ≡ Some End → Means t s k r → RowSays t keep s [] r
row_end t keep s k r e m = subst (RowSays t keep s []) (sym (means_end t s k e m)) (record { count = refl; each = λ j a f. absurd (let g : None ≡ Some a = f in cc) })

pub row_byte : (t : List Written) (keep : Bool) (s : List State) (k b n : ℕ) (r : Rest) → b ≤ 255 → slice_get s k ≡ Some (Byte b n) → Means t s k r → RowSays t keep s (label_arc b n ∷ []) r
row_byte t keep s k b n r l e m =
    let h = means_byte t s k b n e m in
    subst (RowSays t keep s (label_arc b n ∷ [])) (sym h.1) (one_row t keep s (label_arc b n) (byte b h.0) refl (label_says t s b n (b, h.0) l refl h.2))

pub row_fields : (t : List Written) (keep : Bool) (old new : List State) (k : ℕ) (ks : List ℕ) (n : ℕ) (row : List Arc) (r : Rest) → slice_get old k ≡ Some (Fields ks n) → RowTo t old new ks n (choices keep ks) row → Means t old k r → RowSays t keep new row r
row_fields t keep old new k ks n row r e h m =
    let f = means_fields t old k ks n e m in
    subst (RowSays t keep new row) (sym f.is) (record { count = h.count; each = h.each f.after f.means })

-- an element that is there, whatever stands for one that is not
pub any_default : {A : Type 0} (xs : List A) (i : ℕ) (d e : A) → i < length xs → get_or xs i d ≡ get_or xs i e
any_default xs i d e l = sym (get_or_from_slice_get xs i (get_or xs i d) e (slice_get-get_or xs i d l))
