-- Classes of bytes, and the sources of states, one after another.
use Rattle.std.proofs.Common.{◌≡◌, ℕ, ◌+◌, ◌<◌, ◌≤◌, List, [], ◌∷◌, ◌++◌, length, get_or, refl, sym, ◌∙◌, ap, subst, arith, inl, inr, length-append}
use Rattle.std.specs.List.{Contains}
use Rattle.std.proofs.lemmas.Bool.{cases_lt, cases_eq}
use Rattle.std.proofs.lemmas.List.{get_or_past, get_or_append_left, get_or_push, get_or-set_same, get_or-set_other, length-set}
use Rattle.std.proofs.lemmas.List.Elements.{Contains-get_or, Contains-push, Contains-push_cases}
use Rattle.weighted_relations.specs.Relations.{IsByte}
use Rattle.acceptor_ops.specs.Tables.{Table, step_of}
use Rattle.acceptor_ops.specs.StateSets.{with_element}
use Rattle.acceptor_ops.proofs.Filling.{element_there, element_kept, element_only}
use Rattle.rewrite_rules.specs.Classes.{Classing, class_at, first, AreAlike, IsMember, AreClassesTo, joined, opened}
use Rattle.rewrite_rules.specs.Befores.{LeadTo, AreBefore}
use Rattle.rewrite_rules.specs.declared.automata.Automata.{Automata}

none_in_nil : {A : Type 0} (x : A) → Contains [] x → ⊥
none_in_nil x (k, l, e) = omega (arith, l)

-- Sources

pub lead_none : (d : Table) (label n : ℕ) (lists : List (List ℕ)) → n ≡ length d.next → length lists ≡ n → ((c : ℕ) → get_or lists c [] ≡ []) → LeadTo d label 0 lists
lead_none d label n lists p q h = record {
  count = q ∙ p;
  sources = λ b s. (λ k. absurd (none_in_nil s (subst (λ r. Contains r s) (h b) k)), λ (l, e). absurd (omega (arith, l)));
}

pub lead_more : (d : Table) (label n : ℕ) (lists : List (List ℕ)) (b : ℕ) → b ≡ step_of d n label → b < length lists → LeadTo d label n lists → LeadTo d label (n + 1) (with_element lists b n)
lead_more d label n lists b at l h = record {
  count = length-set lists b (get_or lists b [] ++ n ∷ []) ∙ h.count;
  sources = λ c s. (
    λ k. elim (element_only lists b n c s l k) [
      | inl old ↦ let f = (h.sources c s).0 old in (let m : s < n = f.0 in omega arith, f.1)
      | inr (p, q) ↦ (let m : n ≡ s = q in omega arith, ap (λ j. step_of d j label) (sym q) ∙ sym at ∙ p)
    ],
    λ (m, e). elim (cases_lt s n) [
      | inl j ↦ element_kept lists b n c s l ((h.sources c s).1 (j, e))
      | inr j ↦
          let same : n ≡ s = omega arith in
          let to : b ≡ c = at ∙ ap (λ j. step_of d j label) same ∙ e in
          subst (λ x. Contains (get_or (with_element lists b n) x []) s) to (subst (λ x. Contains (get_or (with_element lists b n) b []) x) same (element_there lists b n l))
    ],
  );
}

pub befores_none : (t : Automata) (k : Classing) → AreBefore t k 0 []
befores_none t k = record { count = refl; each = λ i l. absurd (omega (arith, l)) }

pub befores_more : (t : Automata) (k : Classing) (n : ℕ) (table : List (List (List ℕ))) (lists : List (List ℕ)) → AreBefore t k n table → LeadTo t.back (first k n) (length t.back.next) lists → AreBefore t k (n + 1) (table ++ lists ∷ [])
befores_more t k n table lists h lead =
    let count : length table ≡ n = h.count in
    record {
      count = length-append table (lists ∷ []) ∙ ap (λ j. j + 1) count;
      each = λ i l. elim (cases_lt i n) [
        | inl m ↦ subst (LeadTo t.back (first k i) (length t.back.next)) (sym (get_or_append_left table (lists ∷ []) [] i (omega arith))) (h.each i m)
        | inr m ↦
            let same : n ≡ i = omega arith in
            let at : length table ≡ i = count ∙ same in
            subst (LeadTo t.back (first k i) (length t.back.next)) (sym (get_or_push table lists [] i at)) (subst (λ j. LeadTo t.back (first k j) (length t.back.next) lists) same lead)
      ];
    }

-- Classes

member_as : (t : Automata) (k j : Classing) (n c : ℕ) → first k n ≡ first j n → IsMember t k n c → IsMember t j n c
member_as t k j n c e h = record { byte = h.byte; alike = subst (λ f. AreAlike t f c) e h.alike }

pub classes_none : (t : Automata) → AreClassesTo t 1 (record { of = 0 ∷ []; members = [] })
classes_none t = record {
  length_of = refl;
  sound = λ n c h. absurd (none_in_nil c (subst (λ r. Contains r c) (get_or_past [] n [] (omega arith)) h));
  within = λ c low high. absurd (omega (arith, low, high));
  all = λ c low high. absurd (omega (arith, low, high));
  some = λ n l. absurd (omega (arith, l));
}

-- a class keeps its first byte
first_joined : (k : Classing) (n c j : ℕ) → n < length k.members → 0 < length (get_or k.members n []) → first k j ≡ first (joined k n c) j
first_joined k n c j l some = elim (cases_eq j n) [
  | inl e ↦
      ap (λ i. get_or (get_or k.members i []) 0 0) e ∙ sym (get_or_append_left (get_or k.members n []) (c ∷ []) 0 0 some) ∙
      ap (λ r. get_or r 0 0) (sym (get_or-set_same k.members n (get_or k.members n [] ++ c ∷ []) [] l)) ∙ ap (λ i. get_or (get_or (with_element k.members n c) i []) 0 0) (sym e)
  | inr ne ↦ ap (λ r. get_or r 0 0) (sym (get_or-set_other k.members n j (get_or k.members n [] ++ c ∷ []) [] ne))
]

pub classes_joined : (t : Automata) (c n : ℕ) (k : Classing) → IsByte c → n < length k.members → AreAlike t (first k n) c → AreClassesTo t c k → AreClassesTo t (c + 1) (joined k n c)
classes_joined t c n k byte l alike h =
    let count : length k.of ≡ c = h.length_of in
    let size : length (with_element k.members n c) ≡ length k.members = length-set k.members n (get_or k.members n [] ++ c ∷ []) in
    let some : 0 < length (get_or k.members n []) = h.some n l in
    let old : (d : ℕ) → d < c → class_at (joined k n c) d ≡ class_at k d = λ d m. get_or_append_left k.of (n ∷ []) 0 d (omega arith) in
    let new : (d : ℕ) → c ≡ d → class_at (joined k n c) d ≡ n = λ d m. get_or_push k.of n 0 d (count ∙ m) in
    record {
      length_of = length-append k.of (n ∷ []) ∙ ap (λ j. j + 1) count;
      sound = λ j d m. elim (element_only k.members n c j d l m) [
        | inl f ↦ member_as t k (joined k n c) j d (first_joined k n c j l some) (h.sound j d f)
        | inr (p, q) ↦
            member_as t k (joined k n c) j d (first_joined k n c j l some)
            (subst (λ i. IsMember t k i d) p (subst (λ i. IsMember t k n i) q (record { byte = byte; alike = alike })))
      ];
      within = λ d low high. elim (cases_lt d c) [
        | inl m ↦ let w : class_at k d < length k.members = h.within d low m in let e = old d m in omega arith
        | inr m ↦ let same : c ≡ d = omega arith in let e = new d same in omega arith
      ];
      all = λ d low high. elim (cases_lt d c) [
        | inl m ↦ subst (λ i. Contains (get_or (with_element k.members n c) i []) d) (sym (old d m)) (element_kept k.members n c (class_at k d) d l (h.all d low m))
        | inr m ↦
            let same : c ≡ d = omega arith in
            subst (λ i. Contains (get_or (with_element k.members n c) i []) d) (sym (new d same)) (subst (λ i. Contains (get_or (with_element k.members n c) n []) i) same (element_there k.members n c l))
      ];
      some = λ j m. elim (cases_eq j n) [
        | inl e ↦
            subst (λ r. 0 < length r) (sym (ap (λ i. get_or (with_element k.members n c) i []) e ∙ get_or-set_same k.members n (get_or k.members n [] ++ c ∷ []) [] l))
            (let q : length (get_or k.members n [] ++ c ∷ []) ≡ length (get_or k.members n []) + 1 = length-append (get_or k.members n []) (c ∷ []) in omega arith)
        | inr ne ↦ subst (λ r. 0 < length r) (sym (get_or-set_other k.members n j (get_or k.members n [] ++ c ∷ []) [] ne)) (h.some j (omega arith))
      ];
    }

alike_self : (t : Automata) (c : ℕ) → AreAlike t c c
alike_self t c = record { sigma = λ s. refl; left = λ s. refl; back = λ s. refl }

one_in : (c d : ℕ) → Contains (c ∷ []) d → c ≡ d
one_in c d h = elim (Contains-push_cases [] c d h) [ inl none ↦ absurd (none_in_nil d none) | inr e ↦ e ]

pub classes_opened : (t : Automata) (c : ℕ) (k : Classing) → IsByte c → AreClassesTo t c k → AreClassesTo t (c + 1) (opened k c)
classes_opened t c k byte h =
    let count : length k.of ≡ c = h.length_of in
    let size : length (k.members ++ (c ∷ []) ∷ []) ≡ length k.members + 1 = length-append k.members ((c ∷ []) ∷ []) in
    let before : (j : ℕ) → j < length k.members → get_or (k.members ++ (c ∷ []) ∷ []) j [] ≡ get_or k.members j [] = λ j l. get_or_append_left k.members ((c ∷ []) ∷ []) [] j l in
    let at : (j : ℕ) → length k.members ≡ j → get_or (k.members ++ (c ∷ []) ∷ []) j [] ≡ c ∷ [] = λ j e. get_or_push k.members (c ∷ []) [] j e in
    let old : (d : ℕ) → d < c → class_at (opened k c) d ≡ class_at k d = λ d m. get_or_append_left k.of (length k.members ∷ []) 0 d (omega arith) in
    let new : (d : ℕ) → c ≡ d → class_at (opened k c) d ≡ length k.members = λ d m. get_or_push k.of (length k.members) 0 d (count ∙ m) in
    record {
      length_of = length-append k.of (length k.members ∷ []) ∙ ap (λ j. j + 1) count;
      sound = λ j d m. elim (cases_lt j (length k.members)) [
        | inl l ↦ member_as t k (opened k c) j d (ap (λ r. get_or r 0 0) (sym (before j l))) (h.sound j d (subst (λ r. Contains r d) (before j l) m))
        | inr l ↦ elim (cases_eq (length k.members) j) [
          | inl e ↦
              let same : c ≡ d = one_in c d (subst (λ r. Contains r d) (at j e) m) in
              subst (λ i. IsMember t (opened k c) j i) same (record { byte = byte; alike = subst (λ f. AreAlike t f c) (ap (λ r. get_or r 0 0) (sym (at j e))) (alike_self t c) })
          | inr ne ↦ absurd (none_in_nil d (subst (λ r. Contains r d) (get_or_past (k.members ++ (c ∷ []) ∷ []) j [] (omega (arith, ne))) m))
        ]
      ];
      within = λ d low high. elim (cases_lt d c) [
        | inl m ↦ let w : class_at k d < length k.members = h.within d low m in let e = old d m in omega arith
        | inr m ↦ let same : c ≡ d = omega arith in let e = new d same in omega arith
      ];
      all = λ d low high. elim (cases_lt d c) [
        | inl m ↦
            let w : class_at k d < length k.members = h.within d low m in
            subst (λ i. Contains (get_or (k.members ++ (c ∷ []) ∷ []) i []) d) (sym (old d m)) (subst (λ r. Contains r d) (sym (before (class_at k d) w)) (h.all d low m))
        | inr m ↦
            let same : c ≡ d = omega arith in
            subst (λ i. Contains (get_or (k.members ++ (c ∷ []) ∷ []) i []) d) (sym (new d same)) (subst (λ r. Contains r d) (sym (at (length k.members) refl)) (subst (λ i. Contains (c ∷ []) i) same (Contains-push [] c)))
      ];
      some = λ j m. elim (cases_lt j (length k.members)) [
        | inl l ↦ subst (λ r. 0 < length r) (sym (before j l)) (h.some j l)
        | inr l ↦ let e : length k.members ≡ j = omega arith in subst (λ r. 0 < length r) (sym (at j e)) (omega arith)
      ];
    }

-- the byte that stands for a class is one
pub first_byte : (t : Automata) (count n : ℕ) (k : Classing) → AreClassesTo t count k → n < length k.members → IsByte (first k n)
first_byte t count n k h l = (h.sound n (first k n) (Contains-get_or (get_or k.members n []) 0 0 (h.some n l))).byte

-- states that there are none of are all alike
pub steps_past : (d : Table) (a b s : ℕ) → length d.next ≤ s → step_of d s a ≡ step_of d s b
steps_past d a b s l =
    let none : get_or d.next s [] ≡ [] = get_or_past d.next s [] l in
    ap (λ r. get_or r (Rattle.acceptor_ops.specs.Tables.class_of d.classes a) 0) none ∙ get_or_past [] (Rattle.acceptor_ops.specs.Tables.class_of d.classes a) 0 (omega arith) ∙
    sym (ap (λ r. get_or r (Rattle.acceptor_ops.specs.Tables.class_of d.classes b) 0) none ∙ get_or_past [] (Rattle.acceptor_ops.specs.Tables.class_of d.classes b) 0 (omega arith))
