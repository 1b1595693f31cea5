-- The readings of what is left to write.
use Rattle.std.proofs.Common.{◌≡◌, ◌∙◌, sym, ap, subst, refl, arith, ℕ, zero, suc, ◌+◌, ◌≤◌, ◌<◌, List, [], ◌∷◌, ◌++◌, map, Option, Some, None, get_or, append_assoc, Bool, true, false}
use Rattle.std.specs.Prelude.{◌↔◌, slice_get, option_map, drop, All}
use Rattle.std.specs.List.{remove, range_with_len}
use Rattle.std.proofs.lemmas.Option.{slice_get-map, slice_get_within, slice_get-get_or, get_or_from_slice_get}
use Rattle.std.proofs.lemmas.List.FromFn.{get_or-range_with_len, length-range_with_len}
use Rattle.std.proofs.lemmas.List.Elements.{All-nil, All-cons, All-head, All-tail, All-drop}
use Rattle.weighted_relations.specs.Graphs.{GraphPath, GraphFrom, GraphReads, label, stop, step}
use Rattle.field_orders.specs.Remainders.{Written, Rest, nothing, byte, fields, bytes_then, fields_then, closing, behind, choices, arc_count, chosen, arc_at, final_at, writing, field_at}

-- fields of a table in some order
pub data Orderly (t : List Written) (keep : Bool) : List ℕ → List ℕ → Type 0 where
  none : Orderly t keep [] []
  first : {ks xa xb : List ℕ} (i : ℕ) → i < choices keep ks → Orderly t keep (field_at t (get_or ks i 0)).inner xa → Orderly t keep (remove ks i) xb
      → Orderly t keep ks ((field_at t (get_or ks i 0)).text ++ (xa ++ (closing (field_at t (get_or ks i 0)).braced ++ xb)))

-- two texts, one after the other
pub record Two (P Q : List ℕ → Type 0) (x : List ℕ) : Type 0 where
  pub left : List ℕ
  pub right : List ℕ
  pub is : x ≡ left ++ right
  pub first : P left
  pub second : Q right

-- what is left, as texts
abbrev pub Says : List Written → Bool → Rest → List ℕ → Type 0
Says t keep nothing x = x ≡ []
Says t keep (byte b r) x = (y : List ℕ) × (x ≡ b ∷ y) × Says t keep r y
Says t keep (fields ks r) x = Two (Orderly t keep ks) (Says t keep r) x

pub no_choice : (t : List Written) (keep : Bool) {x : List ℕ} → Orderly t keep [] x → x ≡ []
no_choice t keep none = refl
no_choice t keep (first i l a b) = absurd (omega (arith, l))

pub says_bytes : (t : List Written) (keep : Bool) (z : List ℕ) (r : Rest) (x : List ℕ) → Says t keep (bytes_then z r) x → (y : List ℕ) × (x ≡ z ++ y) × Says t keep r y
says_bytes t keep [] r x h = (x, refl, h)
says_bytes t keep (b ∷ z) r x h =
    let k = says_bytes t keep z r h.0 h.2 in
    (k.0, h.1 ∙ ap (λ u. b ∷ u) k.1, k.2)

pub says_fields : (t : List Written) (keep : Bool) (ks : List ℕ) (r : Rest) (x : List ℕ) → Says t keep (fields_then ks r) x → Two (Orderly t keep ks) (Says t keep r) x
says_fields t keep [] r x h = record { left = []; right = x; is = refl; first = none; second = h }
says_fields t keep (k ∷ ks) r x h = h

-- the readings of the arcs that follow a state
abbrev From : List Written → Bool → Rest → Rest → List ℕ → List ℕ → ℕ → Type 0
From t keep whole = GraphFrom (writing t keep whole)

in_range : (n k j : ℕ) → slice_get (range_with_len 0 n) k ≡ Some j → (k < n) × (j ≡ k)
in_range n k j h =
    let l : k < n = subst (λ m. k < m) (length-range_with_len 0 n) (slice_get_within (range_with_len 0 n) k j h) in
    (l, sym (get_or_from_slice_get (range_with_len 0 n) k j 0 h) ∙ get_or-range_with_len 0 n k 0 l ∙ (let z : 0 + k ≡ k = omega arith in z))

of_range : (n k : ℕ) → k < n → slice_get (range_with_len 0 n) k ≡ Some k
of_range n k l =
    slice_get-get_or (range_with_len 0 n) k 0 (subst (λ m. k < m) (sym (length-range_with_len 0 n)) l) ∙ ap Some (get_or-range_with_len 0 n k 0 l ∙ (let z : 0 + k ≡ k = omega arith in z))

mapped : {A B : Type 0} (f : A → B) (o : Option A) (b : B) → option_map f o ≡ Some b → (a : A) × (o ≡ Some a) × (b ≡ f a)
mapped f None b h = absurd (cc)
mapped f (Some a) b h = (a, refl, let e : Some (f a) ≡ Some b = h in let g : f a ≡ b = cc in sym g)

-- the arc of a number
pub arc_of : (t : List Written) (keep : Bool) (r : Rest) (k : ℕ) → k < arc_count keep r → slice_get (map (arc_at t r) (range_with_len 0 (arc_count keep r))) k ≡ Some (arc_at t r k)
arc_of t keep r k l = slice_get-map (arc_at t r) (range_with_len 0 (arc_count keep r)) k ∙ ap (option_map (arc_at t r)) (of_range (arc_count keep r) k l)

pub is_arc : (t : List Written) (keep : Bool) (r : Rest) (k : ℕ) (a : ℕ × Rest) → slice_get (map (arc_at t r) (range_with_len 0 (arc_count keep r))) k ≡ Some a → (k < arc_count keep r) × (a ≡ arc_at t r k)
is_arc t keep r k a h =
    let m = mapped (arc_at t r) (slice_get (range_with_len 0 (arc_count keep r)) k) a (sym (slice_get-map (arc_at t r) (range_with_len 0 (arc_count keep r)) k) ∙ h) in
    let i = in_range (arc_count keep r) k m.0 m.1 in
    (i.0, m.2 ∙ ap (arc_at t r) i.1)

-- no byte 0, and fields where fields are to come
pub data NoZero : Rest → Type 0 where
  at_end : NoZero nothing
  at_byte : {b : ℕ} {r : Rest} → 1 ≤ b → NoZero r → NoZero (byte b r)
  at_fields : {k : ℕ} {ks : List ℕ} {r : Rest} → NoZero r → NoZero (fields (k ∷ ks) r)

-- no field's text has a byte 0
abbrev pub ZeroFree : List Written → Type 0
ZeroFree t = (k : ℕ) → All (λ b. 1 ≤ b) (field_at t k).text

pub zero_free_bytes : (z : List ℕ) (r : Rest) → All (λ b. 1 ≤ b) z → NoZero r → NoZero (bytes_then z r)
zero_free_bytes [] r h n = n
zero_free_bytes (b ∷ z) r h n = at_byte (All-head (λ d. 1 ≤ d) b z h) (zero_free_bytes z r (All-tail (λ d. 1 ≤ d) b z h) n)

pub zero_free_fields : (ks : List ℕ) (r : Rest) → NoZero r → NoZero (fields_then ks r)
zero_free_fields [] r n = n
zero_free_fields (k ∷ ks) r n = at_fields n

free_tail : (z : List ℕ) → All (λ b. 1 ≤ b) z → All (λ b. 1 ≤ b) (drop 1 z)
free_tail z h = All-drop (λ b. 1 ≤ b) 1 z h

free_closing : (b : Bool) → All (λ b. 1 ≤ b) (closing b)
free_closing true = All-cons (λ b. 1 ≤ b) 125 (124 ∷ []) (omega arith) (All-cons (λ b. 1 ≤ b) 124 [] (omega arith) (All-nil (λ b. 1 ≤ b)))
free_closing false = All-nil (λ b. 1 ≤ b)

label_some : (n : ℕ) (x : List ℕ) → 1 ≤ n → label n x ≡ n ∷ x
label_some zero x h = absurd (omega (arith, h))
label_some (suc n) x h = refl

-- a text's first byte, and then the others
label_text : (z x : List ℕ) → All (λ b. 1 ≤ b) z → label (get_or z 0 0) (drop 1 z ++ x) ≡ z ++ x
label_text [] x h = refl
label_text (b ∷ z) x h = label_some b (z ++ x) (All-head (λ d. 1 ≤ d) b z h)

module _ (t : List Written) (keep : Bool) (whole : Rest) (free : ZeroFree t) where
  zero_free_arc : (r : Rest) (k : ℕ) → NoZero r → NoZero (arc_at t r k).1
  zero_free_arc nothing k n = n
  zero_free_arc (byte b r) k (at_byte l n) = n
  zero_free_arc (fields [] r) k n = elim n [ ]
  zero_free_arc (fields (j ∷ js) r) k (at_fields n) =
      let p = field_at t (get_or (j ∷ js) k 0) in
      let others = remove (j ∷ js) k in
      zero_free_bytes (drop 1 p.text) (behind p others r) (free_tail p.text (free (get_or (j ∷ js) k 0)))
      (zero_free_fields p.inner (bytes_then (closing p.braced) (fields_then others r)) (zero_free_bytes (closing p.braced) (fields_then others r) (free_closing p.braced) (zero_free_fields others r n)))

  says_arc : (r : Rest) (k : ℕ) (x : List ℕ) → k < arc_count keep r → NoZero r → Says t keep (arc_at t r k).1 x → Says t keep r (label (arc_at t r k).0 x)
  says_arc nothing k x l n h = absurd (omega (arith, l))
  says_arc (byte b r) k x l (at_byte m n) h = (x, label_some b x m, h)
  says_arc (fields ks r) k x l n h =
      let p = field_at t (get_or ks k 0) in
      let a = says_bytes t keep (drop 1 p.text) (behind p (remove ks k) r) x h in
      let b = says_fields t keep p.inner (bytes_then (closing p.braced) (fields_then (remove ks k) r)) a.0 a.2 in
      let c = says_bytes t keep (closing p.braced) (fields_then (remove ks k) r) b.right b.second in
      let d = says_fields t keep (remove ks k) r c.0 c.2 in
      let e : a.0 ≡ b.left ++ (closing p.braced ++ (d.left ++ d.right)) = b.is ∙ ap (λ u. b.left ++ u) (c.1 ∙ ap (λ u. closing p.braced ++ u) d.is) in
      let f : label (get_or p.text 0 0) x ≡ p.text ++ (b.left ++ (closing p.braced ++ (d.left ++ d.right))) = ap (label (get_or p.text 0 0)) a.1 ∙ label_text p.text a.0 (free (get_or ks k 0)) ∙ ap (λ u. p.text ++ u) e in
      record {
        left = p.text ++ (b.left ++ (closing p.braced ++ d.left));
        right = d.right;
        is = f ∙ sym (append_assoc p.text (b.left ++ (closing p.braced ++ d.left)) d.right ∙ ap (λ u. p.text ++ u) (append_assoc b.left (closing p.braced ++ d.left) d.right ∙ ap (λ u. b.left ++ u) (append_assoc (closing p.braced) d.left d.right)));
        first = first k l b.first d.first;
        second = d.second;
      }

  -- a text of what is left, without weight
  abbrev Spelt : Rest → List ℕ → List ℕ → ℕ → Type 0
  Spelt r x y w = (y ≡ x) × (w ≡ 0) × Says t keep r x

  says_end : (r : Rest) (w : ℕ) → final_at r ≡ Some w → Spelt r [] [] w
  says_end nothing w e = (refl, (let z : 0 ≡ w = cc in sym z), refl)
  says_end (byte b r) w e = absurd (cc)
  says_end (fields ks r) w e = absurd (cc)

  sound : {r : Rest} {ks x y : List ℕ} {w : ℕ} → GraphPath (writing t keep whole) r ks x y w → NoZero r → Spelt r x y w
  sound {r} (stop {w} e) n = says_end r w e
  sound {r} (step {k} {ks} {a} {x} {y} {w} e p) n =
      let i = is_arc t keep r k a e in
      let h = sound p (subst (λ (u : ℕ × Rest). NoZero u.1) (sym i.1) (zero_free_arc r k n)) in
      let s : Says t keep r (label (arc_at t r k).0 x) = says_arc r k x i.0 n (subst (λ (u : ℕ × Rest). Says t keep u.1 x) i.1 h.2) in
      (ap (label a.0) h.0, (let z : w ≡ 0 = h.1 in omega (arith, z)), subst (λ (u : ℕ × Rest). Says t keep r (label u.0 x)) (sym i.1) s)

  -- a text that is read without weight
  abbrev Reads : Rest → List ℕ → Type 0
  Reads r x = GraphFrom (writing t keep whole) r x x 0

  go : (r : Rest) (k : ℕ) (x : List ℕ) → k < arc_count keep r → Reads (arc_at t r k).1 x → Reads r (label (arc_at t r k).0 x)
  go r k x l h = (k ∷ h.0, step {k = k} {a = arc_at t r k} (arc_of t keep r k l) h.1)

  reads_bytes : (z : List ℕ) (r : Rest) (x : List ℕ) → All (λ b. 1 ≤ b) z → Reads r x → Reads (bytes_then z r) (z ++ x)
  reads_bytes [] r x f h = h
  reads_bytes (b ∷ z) r x f h = subst (Reads (byte b (bytes_then z r))) (label_some b (z ++ x) (All-head (λ d. 1 ≤ d) b z f)) (go (byte b (bytes_then z r)) 0 (z ++ x) (omega arith) (reads_bytes z r x (All-tail (λ d. 1 ≤ d) b z f) h))

  reads_chosen : (ks : List ℕ) (r : Rest) (k : ℕ) (x : List ℕ) → k < choices keep ks → Reads (chosen t ks r k).1 x → Reads (fields_then ks r) (label (chosen t ks r k).0 x)
  reads_chosen [] r k x l h = absurd (omega (arith, l))
  reads_chosen (j ∷ ks) r k x l h = go (fields (j ∷ ks) r) k x l h

  reads_fields : {ks x : List ℕ} → Orderly t keep ks x → (r : Rest) (y : List ℕ) → Reads r y → Reads (fields_then ks r) (x ++ y)
  reads_fields none r y h = h
  reads_fields (first {ks} {xa} {xb} i l a b) r y h =
      let p = field_at t (get_or ks i 0) in
      let hb = reads_fields b r y h in
      let hc = reads_bytes (closing p.braced) (fields_then (remove ks i) r) (xb ++ y) (free_closing p.braced) hb in
      let ha = reads_fields a (bytes_then (closing p.braced) (fields_then (remove ks i) r)) (closing p.braced ++ (xb ++ y)) hc in
      let ht = reads_bytes (drop 1 p.text) (behind p (remove ks i) r) (xa ++ (closing p.braced ++ (xb ++ y))) (free_tail p.text (free (get_or ks i 0))) ha in
      let e : p.text ++ (xa ++ (closing p.braced ++ (xb ++ y))) ≡ (p.text ++ (xa ++ (closing p.braced ++ xb))) ++ y = sym (append_assoc p.text (xa ++ (closing p.braced ++ xb)) y ∙ ap (λ u. p.text ++ u) (append_assoc xa (closing p.braced ++ xb) y ∙ ap (λ u. xa ++ u) (append_assoc (closing p.braced) xb y))) in
      subst (Reads (fields_then ks r)) (label_text p.text (xa ++ (closing p.braced ++ (xb ++ y))) (free (get_or ks i 0)) ∙ e) (reads_chosen ks r i (drop 1 p.text ++ (xa ++ (closing p.braced ++ (xb ++ y)))) l ht)

  complete : (r : Rest) (x : List ℕ) → NoZero r → Says t keep r x → Reads r x
  complete nothing x n h = subst (Reads nothing) (sym h) ([], stop refl)
  complete (byte b r) x (at_byte l n) h = subst (Reads (byte b r)) (label_some b h.0 l ∙ sym h.1) (go (byte b r) 0 h.0 (omega arith) (complete r h.0 n h.2))
  complete (fields [] r) x n h = elim n [ ]
  complete (fields (k ∷ ks) r) x (at_fields n) h = subst (Reads (fields (k ∷ ks) r)) (sym h.is) (reads_fields h.first r h.right (complete r h.right n h.second))

-- the readings are exactly the texts of what is left
pub writing_reads : (t : List Written) (keep : Bool) (whole : Rest) → ZeroFree t → NoZero whole → (x y : List ℕ) (w : ℕ) → GraphReads (writing t keep whole) x y w ↔ ((y ≡ x) × (w ≡ 0) × Says t keep whole x)
writing_reads t keep whole free n x y w = (
  λ h. sound t keep whole free h.1 n,
  λ h. subst (λ v. GraphReads (writing t keep whole) x y v) (sym h.1) (subst (λ v. GraphReads (writing t keep whole) x v 0) (sym h.0) (complete t keep whole free whole x n h.2)),
)
