-- The first of a kind in a list, looked for from the front.
use Rattle.std.proofs.Common.{◌≡◌, ◌+◌, ◌<◌, ◌≤◌, ◌∙◌, ℕ, zero, suc, List, [], ◌∷◌, Some, ap, arith, get_or, inl, inr, length, map, option_map, refl, slice_get, subst, sym, take}
use Rattle.std.proofs.lemmas.Bool.{cases_lt}
use Rattle.std.proofs.lemmas.Option.{slice_get-get_or, slice_get-map, slice_get_within}
use Rattle.normaliser.specs.Parts.{NoneBefore}

-- what stands at a place, seen through a function
pub mapped_at : {X Y : Type 0} (f : X → Y) (xs : List X) (i : ℕ) (x : X) → i < length xs → x ≡ get_or xs i x → slice_get (map f xs) i ≡ Some (f x)
mapped_at f xs i x l is = slice_get-map f xs i ∙ (ap (option_map f) (slice_get-get_or xs i x l) ∙ ap (λ y. Some (f y)) (sym is))

front_at : {X : Type 0} (xs : List X) (i k : ℕ) → k < i → slice_get (take i xs) k ≡ slice_get xs k
front_at xs zero k l = absurd (omega (arith, l))
front_at [] (suc i) k l = refl
front_at (x ∷ xs) (suc i) zero l = refl
front_at (x ∷ xs) (suc i) (suc k) l = front_at xs i k (omega (arith, l))

pub front_mapped_at : {X Y : Type 0} (f : X → Y) (xs : List X) (i k : ℕ) → k < i → slice_get (map f (take i xs)) k ≡ slice_get (map f xs) k
front_mapped_at f xs i k l = slice_get-map f (take i xs) k ∙ (ap (option_map f) (front_at xs i k l) ∙ sym (slice_get-map f xs k))

module _ {X : Type 0} (P : X → Type 0) (xs : List X) where
  pub none_step : (i : ℕ) (x : X) → slice_get xs i ≡ Some x → NoneBefore P xs i → (P x → ⊥) → NoneBefore P xs (i + 1)
  none_step i x there none fresh k y l at is =
      elim (cases_lt k i) [
        | inl low ↦ none k y low at is
        | inr high ↦ let same : k ≡ i = omega arith in
            let both : Some y ≡ Some x = sym at ∙ (ap (slice_get xs) same ∙ there) in
            let e : y ≡ x = cc in
            fresh (subst P e is)
      ]

  -- past the last
  pub none_left : (n : ℕ) → length xs ≤ n → NoneBefore P xs n → (k : ℕ) (x : X) → slice_get xs k ≡ Some x → P x → ⊥
  none_left n all none k x at is = none k x (let l = slice_get_within xs k x at in omega (arith, l)) at is
