-- One arc more among the arcs of a state.
use Rattle.std.proofs.Common.{◌≡◌, ◌⊎◌, ◌<◌, ◌≤◌, ◌+◌, ◌-◌, ℕ, List, length, get_or, Some, sym, ap, subst, ◌∙◌, inl, inr, arith}
use Rattle.std.specs.Prelude.{slice_get}
use Rattle.std.specs.List.{insert}
use Rattle.std.proofs.lemmas.Bool.{cases_lt}
use Rattle.std.proofs.lemmas.Option.{slice_get_within, slice_get-get_or, get_or_from_slice_get}
use Rattle.std.proofs.lemmas.List.Edits.{length-insert, get_or-insert_below, get_or-insert_at, get_or-insert_above}
use Rattle.weighted_relations.specs.declared.Arc.{Arc}
use Rattle.fst_core.specs.Turned.{InRow}
use Rattle.lexicon_trees.specs.Shapes.{Before, IsOrdered}
use Rattle.lexicon_trees.specs.Growing.{Splits, FitsAt}

-- where an element of a longer list stood before
pub data Stood {X : Type 0} (xs : List X) (i : ℕ) (y : X) (k : ℕ) (x : X) : Type 0 where
  below : k < i → slice_get xs k ≡ Some x → Stood xs i y k x
  is_it : k ≡ i → x ≡ y → Stood xs i y k x
  above : (j : ℕ) → k ≡ j + 1 → i ≤ j → slice_get xs j ≡ Some x → Stood xs i y k x

pub stood : {X : Type 0} (xs : List X) (i : ℕ) (y : X) (k : ℕ) (x : X) → i ≤ length xs → slice_get (insert xs i y) k ≡ Some x → Stood xs i y k x
stood xs i y k x l e =
    let within : k < length (insert xs i y) = slice_get_within (insert xs i y) k x e in
    let count : length (insert xs i y) ≡ length xs + 1 = length-insert xs i y l in
    let is : get_or (insert xs i y) k x ≡ x = get_or_from_slice_get (insert xs i y) k x x e in
    elim (cases_lt k i) [
      | inl m ↦
          let inside : k < length xs = omega arith in
          below m (slice_get-get_or xs k x inside ∙ ap Some (sym (get_or-insert_below xs i y x k m l) ∙ is))
      | inr m ↦ elim (cases_lt i k) [
        | inl n ↦
            let j : k ≡ (k - 1) + 1 = omega arith in
            let low : i ≤ k - 1 = omega arith in
            let inside : k - 1 < length xs = omega arith in
            above (k - 1) j low (slice_get-get_or xs (k - 1) x inside ∙ ap Some (sym (get_or-insert_above xs i y x (k - 1) low l) ∙ ap (λ z. get_or (insert xs i y) z x) (sym j) ∙ is))
        | inr n ↦
            let at : k ≡ i = omega arith in
            is_it at (sym is ∙ ap (λ z. get_or (insert xs i y) z x) at ∙ get_or-insert_at xs i y x l)
      ]
    ]

pub inserted : (row : List Arc) (i : ℕ) (a : Arc) → i ≤ length row → InRow (insert row i a) a
inserted row i a l =
    let within : i < length (insert row i a) = omega (arith, length-insert row i a l) in
    (i, slice_get-get_or (insert row i a) i a within ∙ ap Some (get_or-insert_at row i a a l))

pub kept_in : (row : List Arc) (i : ℕ) (a : Arc) (k : ℕ) (b : Arc) → i ≤ length row → slice_get row k ≡ Some b → InRow (insert row i a) b
kept_in row i a k b l e =
    let inside : k < length row = slice_get_within row k b e in
    let count : length (insert row i a) ≡ length row + 1 = length-insert row i a l in
    let is : get_or row k b ≡ b = get_or_from_slice_get row k b b e in
    elim (cases_lt k i) [
      | inl m ↦
          let within : k < length (insert row i a) = omega arith in
          (k, slice_get-get_or (insert row i a) k b within ∙ ap Some (get_or-insert_below row i a b k m l ∙ is))
      | inr m ↦
          let within : k + 1 < length (insert row i a) = omega arith in
          (k + 1, slice_get-get_or (insert row i a) (k + 1) b within ∙ ap Some (get_or-insert_above row i a b k m l ∙ is))
    ]

pub only_in : (row : List Arc) (i : ℕ) (a : Arc) (k : ℕ) (b : Arc) → i ≤ length row → slice_get (insert row i a) k ≡ Some b → InRow row b ⊎ (b ≡ a)
only_in row i a k b l e = elim (stood row i a k b l e) [
  | below m h ↦ inl (k, h)
  | is_it m h ↦ inr h
  | above j m n h ↦ inl (j, h)
]

before_as : (i o j q j' q' : ℕ) → j ≡ j' → q ≡ q' → Before i o j q → Before i o j' q'
before_as i o j q j' q' e f h = subst (λ z. Before i o z q') e (subst (λ z. Before i o j z) f h)

pub as_before : (i o i' o' j q : ℕ) → i ≡ i' → o ≡ o' → Before i o j q → Before i' o' j q
as_before i o i' o' j q e f h = subst (λ z. Before z o' j q) e (subst (λ z. Before i z j q) f h)

pub insert_ordered : (row : List Arc) (i : ℕ) (a : Arc) → IsOrdered row → FitsAt row a.input a.output i → IsOrdered (insert row i a)
insert_ordered row i a h fits = record {
  before = λ j k b c l e f.
      elim (stood row i a j b fits.within e) [
        | below m g ↦ elim (stood row i a k c fits.within f) [
          | below n q ↦ h.before j k b c l g q
          | is_it n q ↦ before_as b.input b.output a.input a.output c.input c.output (ap (λ (z : Arc). z.input) (sym q)) (ap (λ (z : Arc). z.output) (sym q)) (fits.below j b m g)
          | above r n o q ↦ h.before j r b c (omega (arith, l, m, n, o)) g q
        ]
        | is_it m g ↦ elim (stood row i a k c fits.within f) [
          | below n q ↦ absurd (omega (arith, l, m, n))
          | is_it n q ↦ absurd (omega (arith, l, m, n))
          | above r n o q ↦ as_before a.input a.output b.input b.output c.input c.output (ap (λ (z : Arc). z.input) (sym g)) (ap (λ (z : Arc). z.output) (sym g)) (fits.above r c o q)
        ]
        | above s m t g ↦ elim (stood row i a k c fits.within f) [
          | below n q ↦ absurd (omega (arith, l, m, n, t))
          | is_it n q ↦ absurd (omega (arith, l, m, n, t))
          | above r n o q ↦ h.before s r b c (omega (arith, l, m, n)) g q
        ]
      ];
}

pub before_trans : (i o j q k r : ℕ) → Before i o j q → Before j q k r → Before i o k r
before_trans i o j q k r f g = elim f [
  | inl l ↦ elim g [ inl m ↦ inl (omega (arith, l, m)) | inr m ↦ inl (omega (arith, l, m.0)) ]
  | inr l ↦ elim g [ inl m ↦ inl (omega (arith, l.0, m)) | inr m ↦ inr (l.0 ∙ m.0, omega (arith, l.1, m.1)) ]
]

-- of two pairs of labels that differ one is before the other
pub before_other : (i o j q : ℕ) → (Before i o j q → ⊥) → ((i ≡ j) × (o ≡ q) → ⊥) → Before j q i o
before_other i o j q f g = elim (cases_lt j i) [
  | inl l ↦ inl l
  | inr l ↦ elim (cases_lt i j) [
    | inl m ↦ absurd (f (inl m))
    | inr m ↦
        let e : i ≡ j = omega (arith, l, m) in
        elim (cases_lt q o) [
          | inl n ↦ inr (sym e, n)
          | inr n ↦ elim (cases_lt o q) [
            | inl p ↦ absurd (f (inr (e, p)))
            | inr p ↦ absurd (g (e, omega (arith, n, p)))
          ]
        ]
  ]
]

module _ (row : List Arc) (h : IsOrdered row) (i o m : ℕ) (x : Arc) (there : slice_get row m ≡ Some x) where
  same_arc : (k : ℕ) (a : Arc) → k ≡ m → slice_get row k ≡ Some a → x ≡ a
  same_arc k a e f = let both : Some x ≡ Some a = sym there ∙ ap (slice_get row) (sym e) ∙ f in cc

  pub all_before : Before x.input x.output i o → (k : ℕ) (a : Arc) → k < m + 1 → slice_get row k ≡ Some a → Before a.input a.output i o
  all_before f k a l e = elim (cases_lt k m) [
    | inl n ↦ before_trans a.input a.output x.input x.output i o (h.before k m a x n e there) f
    | inr n ↦ subst (λ (z : Arc). Before z.input z.output i o) (same_arc k a (omega (arith, l, n)) e) f
  ]

  pub none_before : (Before x.input x.output i o → ⊥) → (k : ℕ) (a : Arc) → m ≤ k → slice_get row k ≡ Some a → Before a.input a.output i o → ⊥
  none_before f k a l e g = elim (cases_lt m k) [
    | inl n ↦ f (before_trans x.input x.output a.input a.output i o (h.before m k x a n there e) g)
    | inr n ↦ f (subst (λ (z : Arc). Before z.input z.output i o) (sym (same_arc k a (omega (arith, l, n)) e)) g)
  ]

  pub fits_there : Splits row i o m → ((x.input ≡ i) × (x.output ≡ o) → ⊥) → FitsAt row i o m
  fits_there s g = record {
    within = s.within;
    below = s.below;
    above = λ k a l e.
        let first = before_other x.input x.output i o (s.above m x (omega arith) there) g in
        elim (cases_lt m k) [
          | inl n ↦ before_trans i o x.input x.output a.input a.output first (h.before m k x a n there e)
          | inr n ↦ subst (λ (z : Arc). Before i o z.input z.output) (same_arc k a (omega (arith, l, n)) e) first
        ];
  }

pub fits_end : (row : List Arc) (i o m : ℕ) → length row ≤ m → Splits row i o m → FitsAt row i o m
fits_end row i o m l s = record {
  within = s.within;
  below = s.below;
  above = λ k a n e. absurd (omega (arith, l, n, slice_get_within row k a e));
}
