-- Two outputs of one length compared from their ends.
use Rattle.std.proofs.Common.{◌≡◌, ◌≢◌, ◌<◌, ◌↔◌, ℕ, ◌+◌, ◌-◌, Bool, true, List, [], ◌∷◌, ◌++◌, length, get_or, arith, refl, sym, ap, ◌∙◌, inl, inr, length-append, append_assoc}
use Rattle.std.specs.Prelude.{IsTrue}
use Rattle.std.proofs.lemmas.List.{append-nil}
use Rattle.weighted_relations.specs.Least.{BytesBelow}
use Rattle.least_path.specs.declared.outputs.Letter.{Letter}
use Rattle.least_path.specs.Texts.{texts, IsMade, text_of}
use Rattle.least_path.proofs.Letters.{texts_length, text_none, text_at}

-- from a and b the walk has come to x and y, and below says how what it passed compares
pub record Walked (all : List (List ℕ)) (a b x y : ℕ) (below : Bool) : Type 0 where
  pub first_in : x < length all
  pub second_in : y < length all
  pub even : length (text_of all x) ≡ length (text_of all y)
  pub first_more : List ℕ
  pub second_more : List ℕ
  pub first : text_of all a ≡ text_of all x ++ first_more
  pub second : text_of all b ≡ text_of all y ++ second_more
  pub says : IsTrue below ↔ BytesBelow first_more second_more

pub walk_start : (all : List (List ℕ)) (a b : ℕ) → a < length all → b < length all → length (text_of all a) ≡ length (text_of all b) → Walked all a b a b true
walk_start all a b h k e = record { first_in = h; second_in = k; even = e; first_more = []; second_more = []; first = sym (append-nil (text_of all a)); second = sym (append-nil (text_of all b)); says = (λ _. tt, λ _. refl) }

below_same : (p s t : List ℕ) → BytesBelow (p ++ s) (p ++ t) ↔ BytesBelow s t
below_same [] s t = (λ h. h, λ h. h)
below_same (a ∷ p) s t = (elim [ inl l ↦ absurd (omega (arith, l)) | inr h ↦ (below_same p s t).0 h.1 ], λ h. inr (refl, (below_same p s t).1 h))

pub walk_end : (all : List (List ℕ)) (a b x y : ℕ) (below : Bool) → x ≡ y → Walked all a b x y below → IsTrue below ↔ BytesBelow (text_of all a) (text_of all b)
walk_end all a b x y below e w =
    let same : text_of all y ≡ text_of all x = ap (text_of all) (sym e) in
    let second : text_of all b ≡ text_of all x ++ w.second_more = w.second ∙ ap (λ t. t ++ w.second_more) same in
    let k = below_same (text_of all x) w.first_more w.second_more in
    rw (w.first, second) (λ h. k.1 (w.says.0 h), λ h. w.says.1 (k.0 h))

-- a letter that is there, and the output before it
module _ (letters : List Letter) (x : ℕ) (some : 0 < x) (known : x < length (texts letters)) where
  pub letter_within : x - 1 < length letters
  letter_within = let n = texts_length letters in omega arith

  pub before_less : IsMade letters → (d p : Letter) → p ≡ get_or letters (x - 1) d → p.before < x
  before_less made d p is =
      let h : (get_or letters (x - 1) d).before < (x - 1) + 1 = made (x - 1) d letter_within in
      let k : p.before ≡ (get_or letters (x - 1) d).before = ap (λ (l : Letter). l.before) is in
      omega arith

module _ (letters : List Letter) (made : IsMade letters) (a b x y : ℕ) (below : Bool) (w : Walked (texts letters) a b x y below) (apart : x ≢ y) (d e : Letter) where
  above : (u v : ℕ) → length (text_of (texts letters) u) ≡ length (text_of (texts letters) v) → v < length (texts letters) → u ≢ v → u ≡ 0 → ⊥
  above u v len within ne z =
      let none : text_of (texts letters) u ≡ [] = ap (text_of (texts letters)) z ∙ text_none letters in
      let at : text_of (texts letters) v ≡ text_of (texts letters) (get_or letters (v - 1) d).before ++ (get_or letters (v - 1) d).label ∷ [] = text_at letters made v d (omega arith) within in
      let k : length (text_of (texts letters) v) ≡ length (text_of (texts letters) (get_or letters (v - 1) d).before) + 1 = ap length at ∙ length-append (text_of (texts letters) (get_or letters (v - 1) d).before) ((get_or letters (v - 1) d).label ∷ []) in
      let n : length (text_of (texts letters) u) ≡ 0 = ap length none in
      omega arith

  pub first_above : 0 < x
  first_above = let h : x ≡ 0 → ⊥ = above x y w.even w.second_in apart in omega arith

  pub second_above : 0 < y
  second_above = let h : y ≡ 0 → ⊥ = above y x (sym w.even) w.first_in (λ k. apart (sym k)) in omega arith

  pub first_within : x - 1 < length letters
  first_within = let n = texts_length letters in let m = w.first_in in let k = first_above in omega arith

  pub second_within : y - 1 < length letters
  second_within = let n = texts_length letters in let m = w.second_in in let k = second_above in omega arith

  module _ (p q : Letter) (px : p ≡ get_or letters (x - 1) d) (qy : q ≡ get_or letters (y - 1) e) where
    pub first_less : p.before < x
    first_less = let h : (get_or letters (x - 1) d).before < (x - 1) + 1 = made (x - 1) d first_within in let k : p.before ≡ (get_or letters (x - 1) d).before = ap (λ (l : Letter). l.before) px in let m = first_above in omega arith

    second_less : q.before < y
    second_less = let h : (get_or letters (y - 1) e).before < (y - 1) + 1 = made (y - 1) e second_within in let k : q.before ≡ (get_or letters (y - 1) e).before = ap (λ (l : Letter). l.before) qy in let m = second_above in omega arith

    at_first : text_of (texts letters) x ≡ text_of (texts letters) p.before ++ p.label ∷ []
    at_first = text_at letters made x d first_above w.first_in ∙ sym (ap (λ (l : Letter). text_of (texts letters) l.before ++ l.label ∷ []) px)

    at_second : text_of (texts letters) y ≡ text_of (texts letters) q.before ++ q.label ∷ []
    at_second = text_at letters made y e second_above w.second_in ∙ sym (ap (λ (l : Letter). text_of (texts letters) l.before ++ l.label ∷ []) qy)

    pub walk_more : (below' : Bool) → (IsTrue below' ↔ BytesBelow (p.label ∷ w.first_more) (q.label ∷ w.second_more)) → Walked (texts letters) a b p.before q.before below'
    walk_more below' says = record {
      first_in = (let h = first_less in let k = w.first_in in omega arith);
      second_in = (let h = second_less in let k = w.second_in in omega arith);
      even =
          (let h : length (text_of (texts letters) x) ≡ length (text_of (texts letters) p.before) + 1 = ap length at_first ∙ length-append (text_of (texts letters) p.before) (p.label ∷ []) in
          let k : length (text_of (texts letters) y) ≡ length (text_of (texts letters) q.before) + 1 = ap length at_second ∙ length-append (text_of (texts letters) q.before) (q.label ∷ []) in
          let e = w.even in
          omega arith);
      first_more = p.label ∷ w.first_more;
      second_more = q.label ∷ w.second_more;
      first = w.first ∙ ap (λ t. t ++ w.first_more) at_first ∙ append_assoc (text_of (texts letters) p.before) (p.label ∷ []) w.first_more;
      second = w.second ∙ ap (λ t. t ++ w.second_more) at_second ∙ append_assoc (text_of (texts letters) q.before) (q.label ∷ []) w.second_more;
      says = says;
    }

pub says_same : (below : Bool) (m n : ℕ) (s t : List ℕ) → m ≡ n → (IsTrue below ↔ BytesBelow s t) → IsTrue below ↔ BytesBelow (m ∷ s) (n ∷ t)
says_same below m n s t e h = (λ k. inr (e, h.0 k), elim [ inl l ↦ absurd (omega (arith, l, e)) | inr k ↦ h.1 k.1 ])

pub says_apart : (below : Bool) (m n : ℕ) (s t : List ℕ) → m ≢ n → (IsTrue below ↔ (m < n)) → IsTrue below ↔ BytesBelow (m ∷ s) (n ∷ t)
says_apart below m n s t ne h = (λ k. inl (h.0 k), elim [ inl l ↦ h.1 l | inr k ↦ absurd (ne k.0) ])
