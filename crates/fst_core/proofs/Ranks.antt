-- How many states before one are kept, and the list of the kept states.
use Rattle.std.proofs.Common.{◌≡◌, ℕ, zero, suc, ◌+◌, ◌-◌, ◌<◌, ◌≤◌, Bool, true, false, List, [], ◌∷◌, ◌++◌, length, get_or, Some, refl, sym, ◌∙◌, ap, subst, inl, inr, arith, true≢false}
use Rattle.std.specs.Prelude.{slice_get}
use Rattle.std.proofs.lemmas.Bool.{cases_lt}
use Rattle.std.proofs.lemmas.List.{get_or_append_left, get_or_push}
use Rattle.fst_core.specs.Useful.{IsKept, rank}

pub rank_zero : (keep : List Bool) → rank keep 0 ≡ 0
rank_zero [] = refl
rank_zero (b ∷ keep) = refl

rank_suc : (keep : List Bool) (s : ℕ) → get_or keep s false ≡ true → rank keep (suc s) ≡ rank keep s + 1
rank_suc [] s h = absurd (true≢false (sym h))
rank_suc (true ∷ keep) zero h = let q : rank keep 0 ≡ 0 = rank_zero keep in let r : 1 + rank keep 0 ≡ 0 + 1 = omega arith in r
rank_suc (false ∷ keep) zero h = absurd (true≢false (sym h))
rank_suc (true ∷ keep) (suc s) h = let q : rank keep (suc s) ≡ rank keep s + 1 = rank_suc keep s h in let r : 1 + rank keep (suc s) ≡ (1 + rank keep s) + 1 = omega arith in r
rank_suc (false ∷ keep) (suc s) h = rank_suc keep s h

rank_same : (keep : List Bool) (s : ℕ) → get_or keep s false ≡ false → rank keep (suc s) ≡ rank keep s
rank_same [] s h = refl
rank_same (true ∷ keep) zero h = absurd (true≢false h)
rank_same (false ∷ keep) zero h = rank_zero keep
rank_same (true ∷ keep) (suc s) h = ap (λ n. 1 + n) (rank_same keep s h)
rank_same (false ∷ keep) (suc s) h = rank_same keep s h

pub rank_kept : (keep : List Bool) (s : ℕ) → IsKept keep s → rank keep (s + 1) ≡ rank keep s + 1
rank_kept keep s h = let e : suc s ≡ s + 1 = omega arith in subst (λ n. rank keep n ≡ rank keep s + 1) e (rank_suc keep s h)

pub rank_other : (keep : List Bool) (s : ℕ) → get_or keep s false ≡ false → rank keep (s + 1) ≡ rank keep s
rank_other keep s h = let e : suc s ≡ s + 1 = omega arith in subst (λ n. rank keep n ≡ rank keep s) e (rank_same keep s h)

rank_step : (keep : List Bool) (s : ℕ) → rank keep s ≤ rank keep (s + 1)
rank_step keep s = by (get_or keep s false) refl
  where
    by : (b : Bool) → get_or keep s false ≡ b → rank keep s ≤ rank keep (s + 1)
    by true e = let q : rank keep (s + 1) ≡ rank keep s + 1 = rank_kept keep s e in omega arith
    by false e = let q : rank keep (s + 1) ≡ rank keep s = rank_other keep s e in omega arith

pub rank_up : (keep : List Bool) (s k : ℕ) → rank keep s ≤ rank keep (s + k)
rank_up keep s zero = let e : s ≡ s + 0 = omega arith in subst (λ n. rank keep s ≤ rank keep n) e (let l : rank keep s ≤ rank keep s = omega arith in l)
rank_up keep s (suc k) =
    let p : rank keep s ≤ rank keep (s + k) = rank_up keep s k in
    let q : rank keep (s + k) ≤ rank keep ((s + k) + 1) = rank_step keep (s + k) in
    let e : (s + k) + 1 ≡ s + suc k = omega arith in
    let r : rank keep s ≤ rank keep ((s + k) + 1) = omega arith in
    subst (λ n. rank keep s ≤ rank keep n) e r

pub rank_below : (keep : List Bool) (s t : ℕ) → IsKept keep s → s < t → rank keep s < rank keep t
rank_below keep s t h l =
    let p : rank keep (s + 1) ≡ rank keep s + 1 = rank_kept keep s h in
    let q : rank keep (s + 1) ≤ rank keep ((s + 1) + (t - (s + 1))) = rank_up keep (s + 1) (t - (s + 1)) in
    let e : (s + 1) + (t - (s + 1)) ≡ t = omega arith in
    let r : rank keep ((s + 1) + (t - (s + 1))) ≡ rank keep t = ap (rank keep) e in
    omega arith

pub rank_small : (keep : List Bool) (s : ℕ) → rank keep s ≤ s
rank_small [] s = omega arith
rank_small (b ∷ keep) zero = omega arith
rank_small (true ∷ keep) (suc s) = let q : rank keep s ≤ s = rank_small keep s in let r : 1 + rank keep s ≤ suc s = omega arith in r
rank_small (false ∷ keep) (suc s) = let q : rank keep s ≤ s = rank_small keep s in omega arith

-- each number below is the rank of a kept state
pub rank_onto : (keep : List Bool) (n t : ℕ) → t < rank keep n → (s : ℕ) × (s < n) × IsKept keep s × (rank keep s ≡ t)
rank_onto keep zero t l = absurd (let e : rank keep 0 ≡ 0 = rank_zero keep in omega arith)
rank_onto keep (suc n) t l = by (get_or keep n false) refl (λ m. rank_onto keep n t m)
  where
    by : (b : Bool) → get_or keep n false ≡ b → (t < rank keep n → (s : ℕ) × (s < n) × IsKept keep s × (rank keep s ≡ t)) → (s : ℕ) × (s < suc n) × IsKept keep s × (rank keep s ≡ t)
    by true e earlier =
        let more : rank keep (suc n) ≡ rank keep n + 1 = rank_suc keep n e in
        elim (cases_lt t (rank keep n)) [
          | inl m ↦ let q = earlier m in (q.0, (let k : q.0 < n = q.1 in omega arith), q.2, q.3)
          | inr m ↦ (n, omega arith, e, omega arith)
        ]
    by false e earlier =
        let same : rank keep (suc n) ≡ rank keep n = rank_same keep n e in
        let m : t < rank keep n = omega arith in
        let q = earlier m in (q.0, (let k : q.0 < n = q.1 in omega arith), q.2, q.3)

pub rank_more : (keep : List Bool) (s : ℕ) (xs : List ℕ) → length xs ≡ s → ((t : ℕ) → t < s → get_or xs t 0 ≡ rank keep t) → (t : ℕ) → t < s + 1 → get_or (xs ++ rank keep s ∷ []) t 0 ≡ rank keep t
rank_more keep s xs n had t l = elim (cases_lt t s) [
  | inl low ↦ get_or_append_left xs (rank keep s ∷ []) 0 t (omega arith) ∙ had t low
  | inr high ↦ let e : length xs ≡ t = omega arith in let f : s ≡ t = omega arith in get_or_push xs (rank keep s) 0 t e ∙ ap (rank keep) f
]

pub first_rank : (keep : List Bool) → 0 ≡ rank keep 0
first_rank keep = sym (rank_zero keep)

-- the kept states, which are numbered from n on
abbrev pub places : ℕ → List Bool → List ℕ
places n [] = []
places n (true ∷ keep) = n ∷ places (suc n) keep
places n (false ∷ keep) = places (suc n) keep

pub places_count : (n : ℕ) (keep : List Bool) → length (places n keep) ≡ rank keep (length keep)
places_count n [] = refl
places_count n (true ∷ keep) = let e : length (places (suc n) keep) ≡ rank keep (length keep) = places_count (suc n) keep in let r : suc (length (places (suc n) keep)) ≡ 1 + rank keep (length keep) = omega arith in r
places_count n (false ∷ keep) = places_count (suc n) keep

place_from : (n : ℕ) (keep : List Bool) (i s : ℕ) → slice_get (places n keep) i ≡ Some s → (k : ℕ) × (s ≡ n + k) × IsKept keep k × (rank keep k ≡ i)
place_from n [] i s e = absurd (cc)
place_from n (true ∷ keep) zero s e = (0, (let same : n ≡ s = cc in omega arith), refl, refl)
place_from n (true ∷ keep) (suc i) s e =
    let r = place_from (suc n) keep i s e in
    let k = r.0 in
    let at : s ≡ suc n + k = r.1 in
    let q : rank keep k ≡ i = r.3 in
    let more : 1 + rank keep k ≡ suc i = omega arith in
    (suc k, omega arith, r.2, more)
place_from n (false ∷ keep) i s e =
    let r = place_from (suc n) keep i s e in
    let k = r.0 in
    let at : s ≡ suc n + k = r.1 in
    (suc k, omega arith, r.2, r.3)

from_place : (n : ℕ) (keep : List Bool) (k : ℕ) → IsKept keep k → slice_get (places n keep) (rank keep k) ≡ Some (n + k)
from_place n [] k h = absurd (true≢false (sym h))
from_place n (true ∷ keep) zero h = ap Some (let e : n ≡ n + 0 = omega arith in e)
from_place n (true ∷ keep) (suc k) h =
    let e : suc (rank keep k) ≡ 1 + rank keep k = omega arith in
    let f : suc n + k ≡ n + suc k = omega arith in
    subst (λ j. slice_get (n ∷ places (suc n) keep) j ≡ Some (n + suc k)) e (from_place (suc n) keep k h ∙ ap Some f)
from_place n (false ∷ keep) zero h = absurd (true≢false (sym h))
from_place n (false ∷ keep) (suc k) h = let f : suc n + k ≡ n + suc k = omega arith in from_place (suc n) keep k h ∙ ap Some f

-- the state at a place is kept, and its number is the place
pub kept_at_place : (keep : List Bool) (i s : ℕ) → slice_get (places 0 keep) i ≡ Some s → IsKept keep s × (rank keep s ≡ i)
kept_at_place keep i s e =
    let r = place_from 0 keep i s e in
    let same : r.0 ≡ s = (let at : s ≡ 0 + r.0 = r.1 in omega arith) in
    (subst (IsKept keep) same r.2, subst (λ k. rank keep k ≡ i) same r.3)

pub place_of_kept : (keep : List Bool) (s : ℕ) → IsKept keep s → slice_get (places 0 keep) (rank keep s) ≡ Some s
place_of_kept keep s h = let e : 0 + s ≡ s = omega arith in from_place 0 keep s h ∙ ap Some e

pub places_in_order : (keep : List Bool) (i j s t : ℕ) → i < j → slice_get (places 0 keep) i ≡ Some s → slice_get (places 0 keep) j ≡ Some t → s < t
places_in_order keep i j s t l f g = elim (cases_lt s t) [
  | inl low ↦ low
  | inr high ↦
      let a : rank keep s ≡ i = (kept_at_place keep i s f).1 in
      let b : rank keep t ≡ j = (kept_at_place keep j t g).1 in
      let up : rank keep t ≤ rank keep (t + (s - t)) = rank_up keep t (s - t) in
      let e : rank keep (t + (s - t)) ≡ rank keep s = ap (rank keep) (let q : t + (s - t) ≡ s = omega arith in q) in
      absurd (omega arith)
]
