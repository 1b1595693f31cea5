-- Why a search ends: nodes that a code tells apart, and of which none is settled twice, are few.
use Rattle.std.specs.Prelude.{◌≡◌, ◌<◌, ◌≤◌, ℕ, List, [], ◌∷◌, ◌++◌, length, map, All, Contains, Bool, true, false}
use Rattle.std.specs.List.{IsDistinct, list_any}
use Rattle.std.specs.Cmp.{nat_eq_equiv}
use Rattle.std.proofs.Common.{eqb, sym, subst, refl}
use Rattle.std.proofs.lemmas.Bool.{eqb-true}
use Rattle.std.proofs.lemmas.List.{map-append, length-map}
use Rattle.std.proofs.lemmas.List.Elements.{All-head, All-tail}
use Rattle.std.proofs.lemmas.Map.Keys.{IsDistinct-push}
use Rattle.std.proofs.lemmas.Map.Steps.{length-le_from_distinct_below}
use Rattle.weighted_relations.specs.SearchRunLaws.{contains_first, contains_later}

-- numbers below a bound for the things that P holds of, which tell them apart
pub record Numbered {A : Type 0} (P : A → Type 0) (bound : ℕ) (code : A → ℕ) : Type 0 where
  pub below : (a : A) → P a → code a < bound
  pub apart : (a b : A) → P a → P b → code a ≡ code b → a ≡ b

module _ {A : Type 0} (P : A → Type 0) (bound : ℕ) (code : A → ℕ) (numbered : Numbered P bound code) where
  -- whose code is in the list is in the list
  from_code : (xs : List A) (a : A) → All P xs → P a → list_any (eqb (code a)) (map code xs) ≡ true → Contains xs a
  from_code [] a all h e = absurd (cc)
  from_code (x ∷ xs) a all h e = go (λ k. from_code xs a (All-tail P x xs all) h k) (eqb (code a) (code x)) refl where
    go : (list_any (eqb (code a)) (map code xs) ≡ true → Contains xs a) → (t : Bool) → eqb (code a) (code x) ≡ t → Contains (x ∷ xs) a
    go rest true f = subst (Contains (x ∷ xs)) (sym (numbered.apart a x h (All-head P x xs all) (eqb-true (code a) (code x) f))) (contains_first x xs)
    go rest false f = contains_later x xs a (rest (rw f at e))

  below_bound : (xs : List A) → All P xs → (q : ℕ) → list_any (eqb q) (map code xs) ≡ true → q < bound
  below_bound [] all q e = absurd (cc)
  below_bound (x ∷ xs) all q e = go (λ k. below_bound xs (All-tail P x xs all) q k) (eqb q (code x)) refl where
    go : (list_any (eqb q) (map code xs) ≡ true → q < bound) → (t : Bool) → eqb q (code x) ≡ t → q < bound
    go rest true f = subst (λ n. n < bound) (sym (eqb-true q (code x) f)) (numbered.below x (All-head P x xs all))
    go rest false f = rest (rw f at e)

  pub few : (xs : List A) → All P xs → IsDistinct eqb (map code xs) → length xs ≤ bound
  few xs all d =
      let h : length (map code xs) ≤ bound = length-le_from_distinct_below (map code xs) bound d (below_bound xs all) in
      subst (λ n. n ≤ bound) (length-map xs code) h

  pub distinct_more : (xs : List A) (a : A) → All P xs → P a → (Contains xs a → ⊥) → IsDistinct eqb (map code xs) → IsDistinct eqb (map code (xs ++ a ∷ []))
  distinct_more xs a all h fresh d =
      let no : list_any (eqb (code a)) (map code xs) ≡ false = go (list_any (eqb (code a)) (map code xs)) refl in
      subst (IsDistinct eqb) (sym (map-append code xs (a ∷ []))) (IsDistinct-push nat_eq_equiv (map code xs) (code a) d no) where
        go : (t : Bool) → list_any (eqb (code a)) (map code xs) ≡ t → t ≡ false
        go true f = absurd (fresh (from_code xs a all h f))
        go false f = refl
