-- Arcs in order, of which those that are alike stand together.
use Rattle.std.specs.Prelude.{◌≡◌, ◌⊎◌, ◌==◌, ℕ, zero, suc, ◌+◌, ◌<◌, ◌≤◌, Bool, true, false, List, [], ◌∷◌, length, get_or, nat_lt, cond, IsSortedByKey}
use Rattle.std.specs.Ordering.{is_lt, nat_cmp, ordering_then}
use Rattle.std.specs.declared.cmp.Ordering.{Ordering}
use Rattle.std.specs.declared.cmp.Ordering.TheVariants.{Less, Equal, Greater}
use Rattle.std.proofs.Common.{refl, sym, ◌∙◌, subst, inl, inr, arith, true≢false}
use Rattle.std.proofs.lemmas.Bool.{cases_lt, eqb-true, eq-eqb, ltb-false}
use Rattle.weighted_relations.specs.declared.Arc.{Arc}
use Rattle.merged_arcs.specs.Merged.{StandTogether, none}

-- the first part that differs decides
abbrev Lex : List ℕ → List ℕ → Type 0
Lex [] ys = Unit {0}
Lex (x ∷ xs) [] = ⊥
Lex (x ∷ xs) (y ∷ ys) = (x < y) ⊎ ((x ≡ y) × Lex xs ys)

lex_refl : (xs : List ℕ) → Lex xs xs
lex_refl [] = tt
lex_refl (x ∷ xs) = inr (refl, lex_refl xs)

lex_trans : (xs ys zs : List ℕ) → Lex xs ys → Lex ys zs → Lex xs zs
lex_trans [] ys zs p q = tt
lex_trans (x ∷ xs) [] zs p q = absurd p
lex_trans (x ∷ xs) (y ∷ ys) [] p q = absurd q
lex_trans (x ∷ xs) (y ∷ ys) (z ∷ zs) p q = elim p [
  | inl l ↦ elim q [ inl m ↦ inl (omega (arith, l, m)) | inr m ↦ inl (subst (λ n. x < n) m.0 l) ]
  | inr h ↦ elim q [ inl m ↦ inl (subst (λ n. n < z) (sym h.0) m) | inr m ↦ inr (h.0 ∙ m.0, lex_trans xs ys zs h.1 m.1) ]
]

-- what lies between lists that begin alike begins so too
squeeze : (x y z : ℕ) (xs ys zs : List ℕ) → Lex (x ∷ xs) (y ∷ ys) → Lex (y ∷ ys) (z ∷ zs) → x ≡ z → (x ≡ y) × Lex xs ys × Lex ys zs
squeeze x y z xs ys zs p q e = elim p [
  | inl l ↦ elim q [ inl m ↦ absurd (omega (arith, l, m, e)) | inr m ↦ absurd (let f : y ≡ z = m.0 in omega (arith, l, f, e)) ]
  | inr h ↦ elim q [ inl m ↦ absurd (let f : x ≡ y = h.0 in omega (arith, m, f, e)) | inr m ↦ (h.0, h.1, m.1) ]
]

abbrev keys : Arc → List ℕ
keys x = x.input ∷ x.output ∷ x.weight ∷ []

module _ (arcs : List Arc) (up : (k : ℕ) → k + 1 < length arcs → Lex (keys (get_or arcs k none)) (keys (get_or arcs (k + 1) none))) where
  upto : (i d : ℕ) → i + d < length arcs → Lex (keys (get_or arcs i none)) (keys (get_or arcs (i + d) none))
  upto i zero l =
      let e : i ≡ i + 0 = omega arith in
      subst (λ n. Lex (keys (get_or arcs i none)) (keys (get_or arcs n none))) e (lex_refl (keys (get_or arcs i none)))
  upto i (suc d) l =
      let e : i + d + 1 ≡ i + suc d = omega arith in
      let k : i + d + 1 < length arcs = omega arith in
      subst (λ n. Lex (keys (get_or arcs i none)) (keys (get_or arcs n none))) e
      (lex_trans (keys (get_or arcs i none)) (keys (get_or arcs (i + d) none)) (keys (get_or arcs (i + d + 1) none)) (upto i d (omega arith)) (up (i + d) k))

  rises : (i j : ℕ) → i ≤ j → j < length arcs → Lex (keys (get_or arcs i none)) (keys (get_or arcs j none))
  rises i j p l =
      let r = gap i j p in
      subst (λ n. Lex (keys (get_or arcs i none)) (keys (get_or arcs n none))) r.1 (upto i r.0 (subst (λ n. n < length arcs) (sym r.1) l)) where
        gap : (i j : ℕ) → i ≤ j → (d : ℕ) × (i + d ≡ j)
        gap zero j p = (j, omega arith)
        gap (suc i) zero p = absurd (omega (arith, p))
        gap (suc i) (suc j) p = let r = gap i j (omega (arith, p)) in (r.0, (let e : i + r.0 ≡ j = r.1 in omega arith))

  risen_together : StandTogether arcs
  risen_together i j k p q l e =
      let x = get_or arcs i none in
      let y = get_or arcs j none in
      let z = get_or arcs k none in
      let a = squeeze x.input y.input z.input (x.output ∷ x.weight ∷ []) (y.output ∷ y.weight ∷ []) (z.output ∷ z.weight ∷ []) (rises i j p (omega (arith, q, l))) (rises j k q l) e.input in
      let b = squeeze x.output y.output z.output (x.weight ∷ []) (y.weight ∷ []) (z.weight ∷ []) a.1 a.2 e.output in
      let c = squeeze x.weight y.weight z.weight [] [] [] b.1 b.2 e.weight in
      record { input = a.0; output = b.0; weight = c.0 }

-- by what the arcs are sorted
abbrev pub label_key : Arc → ℕ × ℕ × ℕ
label_key x = (x.input, x.output, x.weight)

abbrev pub label_cmp : ℕ × ℕ × ℕ → ℕ × ℕ × ℕ → Ordering
label_cmp x y = ordering_then (ordering_then (nat_cmp x.0 y.0) (nat_cmp x.1 y.1)) (nat_cmp x.2 y.2)

then_assoc : (a b c : Ordering) → ordering_then (ordering_then a b) c ≡ ordering_then a (ordering_then b c)
then_assoc Less b c = refl
then_assoc Equal b c = refl
then_assoc Greater b c = refl

then_equal : (a : Ordering) → ordering_then a Equal ≡ a
then_equal Less = refl
then_equal Equal = refl
then_equal Greater = refl

-- the first part of a key
part : (a b : ℕ) (o : Ordering) → is_lt (ordering_then (nat_cmp a b) o) ≡ false → (b < a) ⊎ ((b ≡ a) × (is_lt o ≡ false))
part a b o h = go (nat_lt a b) (a == b) refl refl h where
  go : (s t : Bool) → nat_lt a b ≡ s → (a == b) ≡ t → is_lt (ordering_then (cond s Less (cond t Equal Greater)) o) ≡ false → (b < a) ⊎ ((b ≡ a) × (is_lt o ≡ false))
  go true t e f k = absurd (true≢false k)
  go false true e f k = inr (sym (eqb-true a b f), k)
  go false false e f k = elim (cases_lt b a) [
    | inl l ↦ inl l
    | inr l ↦
        let m : b ≤ a = ltb-false a b e in
        let same : a ≡ b = omega (arith, l, m) in
        absurd (true≢false (sym (eq-eqb a b same) ∙ f))
  ]

in_turn : (x y : Arc) → is_lt (label_cmp (label_key y) (label_key x)) ≡ false → Lex (keys x) (keys y)
in_turn x y h =
    let k : is_lt (ordering_then (nat_cmp y.input x.input) (ordering_then (nat_cmp y.output x.output) (nat_cmp y.weight x.weight))) ≡ false =
    subst (λ o. is_lt o ≡ false) (then_assoc (nat_cmp y.input x.input) (nat_cmp y.output x.output) (nat_cmp y.weight x.weight)) h in
    elim (part y.input x.input (ordering_then (nat_cmp y.output x.output) (nat_cmp y.weight x.weight)) k) [
      | inl l ↦ inl l
      | inr p ↦ inr (
        p.0,
        elim (part y.output x.output (nat_cmp y.weight x.weight) p.1) [
          | inl l ↦ inl l
          | inr q ↦ inr (
            q.0,
            elim (part y.weight x.weight Equal (subst (λ o. is_lt o ≡ false) (sym (then_equal (nat_cmp y.weight x.weight))) q.1)) [
              | inl l ↦ inl l
              | inr r ↦ inr (r.0, tt)
            ],
          )
        ],
      )
    ]

pub sorted_together : (arcs : List Arc) → IsSortedByKey label_key label_cmp arcs → StandTogether arcs
sorted_together arcs sorted = risen_together arcs (λ k l. in_turn (get_or arcs k none) (get_or arcs (k + 1) none) (sorted k none (omega arith) l))
