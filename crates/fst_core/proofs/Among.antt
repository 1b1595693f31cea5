-- What stands in a list.
use Rattle.std.specs.Prelude.{◌≡◌, ◌⊎◌, ℕ, zero, suc, Bool, true, false, cond, List, [], ◌∷◌, ◌++◌, Option, Some, None, slice_get, Contains, IsPermutation}
use Rattle.std.specs.List.{flat_map, filter_map, cons_option}
use Rattle.std.proofs.Common.{refl, sym, ◌∙◌, ap, subst, inl, inr}
use Rattle.std.proofs.lemmas.Option.{slice_get-get_or, slice_get_within, get_or_from_slice_get}
use Rattle.std.proofs.lemmas.List.Sorted.{Contains-permutation}
use Rattle.std.proofs.lemmas.List.Elements.{Contains-append_left, Contains-append_right, Contains-append_cases}

abbrev pub Among : {X : Type 0} → List X → X → Type 0
Among xs x = (k : ℕ) × (slice_get xs k ≡ Some x)

pub among_from : {X : Type 0} (xs : List X) (x : X) → Contains xs x → Among xs x
among_from xs x c = (c.0, slice_get-get_or xs c.0 x c.1 ∙ ap Some c.2)

pub contains_from : {X : Type 0} (xs : List X) (x : X) → Among xs x → Contains xs x
contains_from xs x a = (a.0, slice_get_within xs a.0 x a.1, get_or_from_slice_get xs a.0 x x a.1)

pub among_left : {X : Type 0} (xs ys : List X) (x : X) → Among xs x → Among (xs ++ ys) x
among_left xs ys x a = among_from (xs ++ ys) x (Contains-append_left xs ys x (contains_from xs x a))

pub among_right : {X : Type 0} (xs ys : List X) (x : X) → Among ys x → Among (xs ++ ys) x
among_right xs ys x a = among_from (xs ++ ys) x (Contains-append_right xs ys x (contains_from ys x a))

pub among_cases : {X : Type 0} (xs ys : List X) (x : X) → Among (xs ++ ys) x → Among xs x ⊎ Among ys x
among_cases xs ys x a = elim (Contains-append_cases xs ys x (contains_from (xs ++ ys) x a)) [ inl c ↦ inl (among_from xs x c) | inr c ↦ inr (among_from ys x c) ]

pub among_more : {X : Type 0} (x : X) (xs : List X) (y : X) → Among xs y → Among (x ∷ xs) y
among_more x xs y a = (suc a.0, a.1)

pub permuted : {X : Type 0} (xs ys : List X) (x : X) → IsPermutation xs ys → Among xs x → Among ys x
permuted xs ys x p a = among_from ys x (Contains-permutation xs ys x p (contains_from xs x a))

pub cond_some : {X : Type 0} (t : Bool) (x y : X) → cond t (Some x) None ≡ Some y → (t ≡ true) × (x ≡ y)
cond_some true x y e = (refl, cc)
cond_some false x y e = absurd (cc)

module _ {X Y : Type 0} (h : X → Option Y) where
  abbrev From : List X → Y → Type 0
  From xs y = (x : X) × Among xs x × (h x ≡ Some y)

  from_kept : (x : X) (xs : List X) (y : Y) (o : Option Y) → h x ≡ o → (Among (filter_map h xs) y → From xs y) → Among (cons_option o (filter_map h xs)) y → From (x ∷ xs) y
  from_kept x xs y None e more a = let r = more a in (r.0, among_more x xs r.0 r.1, r.2)
  from_kept x xs y (Some z) e more (zero, i) = (x, (0, refl), e ∙ i)
  from_kept x xs y (Some z) e more (suc k, i) = let r = more (k, i) in (r.0, among_more x xs r.0 r.1, r.2)

  pub from_filter_map : (xs : List X) (y : Y) → Among (filter_map h xs) y → From xs y
  from_filter_map [] y a = absurd (let e : None ≡ Some y = a.1 in cc)
  from_filter_map (x ∷ xs) y a = from_kept x xs y (h x) refl (from_filter_map xs y) a

  skip : (o : Option Y) (ys : List Y) (y : Y) → Among ys y → Among (cons_option o ys) y
  skip None ys y a = a
  skip (Some z) ys y a = among_more z ys y a

  pub to_filter_map : (xs : List X) (k : ℕ) (x : X) (y : Y) → slice_get xs k ≡ Some x → h x ≡ Some y → Among (filter_map h xs) y
  to_filter_map [] k x y i e = absurd (let n : None ≡ Some x = i in cc)
  to_filter_map (z ∷ xs) zero x y i e =
      let same : z ≡ x = cc in
      let at : h z ≡ Some y = ap h same ∙ e in
      subst (λ o. Among (cons_option o (filter_map h xs)) y) (sym at) (0, refl)
  to_filter_map (z ∷ xs) (suc k) x y i e = skip (h z) (filter_map h xs) y (to_filter_map xs k x y i e)

module _ {X Y : Type 0} (f : X → List Y) where
  pub from_flat_map : (xs : List X) (y : Y) → Among (flat_map f xs) y → (x : X) × Among xs x × Among (f x) y
  from_flat_map [] y a = absurd (let e : None ≡ Some y = a.1 in cc)
  from_flat_map (x ∷ xs) y a = elim (among_cases (f x) (flat_map f xs) y a) [
    | inl h ↦ (x, (0, refl), h)
    | inr h ↦ let r = from_flat_map xs y h in (r.0, among_more x xs r.0 r.1, r.2)
  ]

  pub to_flat_map : (xs : List X) (k : ℕ) (x : X) (y : Y) → slice_get xs k ≡ Some x → Among (f x) y → Among (flat_map f xs) y
  to_flat_map [] k x y i a = absurd (let n : None ≡ Some x = i in cc)
  to_flat_map (z ∷ xs) zero x y i a =
      let same : z ≡ x = cc in
      among_left (f z) (flat_map f xs) y (subst (λ t. Among (f t) y) (sym same) a)
  to_flat_map (z ∷ xs) (suc k) x y i a = among_right (f z) (flat_map f xs) y (to_flat_map xs k x y i a)
