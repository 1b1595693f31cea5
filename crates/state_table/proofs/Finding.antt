-- What is found among keys of which equal ones are one.
use Rattle.std.specs.Prelude.{◌≡◌, ◌||◌, ℕ, zero, suc, Bool, true, false, List, [], ◌∷◌, Option, Some, None, get_or, slice_get, IfSome, IfNone}
use Rattle.std.specs.List.{list_any, position, IsDistinct}
use Rattle.std.specs.Option.{is_some}
use Rattle.std.proofs.Common.{refl, sym, ◌∙◌, ap, subst, inl, inr, arith}
use Rattle.std.proofs.lemmas.List.Quantifiers.{position-Some}
use Rattle.std.proofs.lemmas.Map.Keys.{apart_from_distinct}
use Rattle.std.proofs.lemmas.Bool.{cases_lt, both_ways}
use Rattle.std.proofs.lemmas.Option.{slice_get-get_or, slice_get_within, get_or_from_slice_get}
use Rattle.state_table.specs.Numbers.{Distinct}

either_false : (a b : Bool) → (a || b) ≡ false → (a ≡ false) × (b ≡ false)
either_false false b e = (refl, e)
either_false true b e = absurd (cc)

none_any : {K : Type 0} (p : K → Bool) (keys : List K) (i : ℕ) (k : K) → list_any p keys ≡ false → slice_get keys i ≡ Some k → p k ≡ false
none_any p [] i k h e = absurd (let n : None ≡ Some k = e in cc)
none_any p (z ∷ keys) zero k h e = let same : z ≡ k = cc in subst (λ t. p t ≡ false) same (either_false (p z) (list_any p keys) h).0
none_any p (z ∷ keys) (suc i) k h e = none_any p keys i k (either_false (p z) (list_any p keys) h).1 e

module _ {K : Type 0} (keys : List K) where
  pub found_at : (p : K → Bool) (k : K) (o : Option ℕ) → o ≡ position p keys → ((x : K) → p x ≡ true → x ≡ k) → IfSome o (λ i. slice_get keys i ≡ Some k)
  found_at p k None e same = tt
  found_at p k (Some i) e same =
      let r = position-Some p keys i k (sym e) in
      slice_get-get_or keys i k r.0 ∙ ap Some (same (get_or keys i k) r.1)

  pub absent_at : (p : K → Bool) (k : K) (o : Option ℕ) → is_some o ≡ list_any p keys → p k ≡ true → IfNone o ((i : ℕ) → slice_get keys i ≡ Some k → ⊥)
  absent_at p k None e itself = λ i h. both_ways (p k) (none_any p keys i k (sym e) h) itself
  absent_at p k (Some i) e itself = tt

  pub distinct_from : (eq : K → K → Bool) → IsDistinct eq keys → ((k : K) → eq k k ≡ true) → Distinct keys
  distinct_from eq h itself i j k p q =
      let li = slice_get_within keys i k p in
      let lj = slice_get_within keys j k q in
      let gi = get_or_from_slice_get keys i k k p in
      let gj = get_or_from_slice_get keys j k k q in
      elim (cases_lt i j) [
        | inl l ↦ absurd (let n = apart_from_distinct eq keys i j k h l lj in both_ways (eq k k) (rw (gi, gj) at n) (itself k))
        | inr l ↦ elim (cases_lt j i) [
          | inl m ↦ absurd (let n = apart_from_distinct eq keys j i k h m li in both_ways (eq k k) (rw (gj, gi) at n) (itself k))
          | inr m ↦ omega arith
        ]
      ]
