-- Lists that are made of a list and of the same one in another order.
use Rattle.std.specs.Prelude.{ℕ, zero, suc, ◌<◌, List, [], ◌∷◌, Option, Some, None, length, get_or, IsPermutation}
use Rattle.std.specs.List.{flat_map, filter_map, cons_option, swap}
use Rattle.std.proofs.Common.{arith, set}
use Rattle.std.proofs.lemmas.List.Sorted.{IsPermutation-refl, IsPermutation-keeps, IsPermutation-trans, IsPermutation-append, IsPermutation-append_left, IsPermutation-append_comm, IsPermutation-cons}
use Rattle.weighted_relations.specs.declared.Arc.{Arc}
use Rattle.compose_filter.specs.declared.filters.Filter.{Filter}
use Rattle.compose_filter.specs.Combinations.{joint, first_alone, second_alone, combinations}

-- A relation holds along each permutation if it is reflexive and transitive, and goes under a head and over an exchange of two heads.
module _ {X : Type 0} (R : List X → List X → Type 0) (same : (xs : List X) → R xs xs)
    (skip : (x : X) (xs ys : List X) → R xs ys → R (x ∷ xs) (x ∷ ys))
    (turn : (x y : X) (xs : List X) → R (x ∷ y ∷ xs) (y ∷ x ∷ xs))
    (chain : (xs ys zs : List X) → R xs ys → R ys zs → R xs zs) where
  to_head : (l : List X) (j : ℕ) (x d : X) → j < length l → R (x ∷ l) (get_or l j d ∷ set l j x)
  to_head [] j x d h = absurd (omega arith)
  to_head (y ∷ l) zero x d h = turn x y l
  to_head (y ∷ l) (suc j) x d h =
      chain _ _ _ (turn x y l) (chain _ _ _ (skip y _ _ (to_head l j x d (omega arith))) (turn y (get_or l j d) (set l j x)))

  exchanged : (l : List X) (i j : ℕ) (d : X) → i < length l → j < length l → R l (set (set l i (get_or l j d)) j (get_or l i d))
  exchanged [] i j d p q = absurd (omega arith)
  exchanged (x ∷ l) zero zero d p q = same (x ∷ l)
  exchanged (x ∷ l) zero (suc j) d p q = to_head l j x d (omega arith)
  exchanged (x ∷ l) (suc i) zero d p q = to_head l i x d (omega arith)
  exchanged (x ∷ l) (suc i) (suc j) d p q = skip x _ _ (exchanged l i j d (omega arith) (omega arith))

  swapped : (l : List X) (i j : ℕ) → i < length l → j < length l → R l (swap l i j)
  swapped [] i j p q = same []
  swapped (x ∷ l) i j p q = exchanged (x ∷ l) i j x p q

  pub along_permutation : (xs ys : List X) → IsPermutation xs ys → R xs ys
  along_permutation xs = IsPermutation-keeps xs (R xs) (same xs) (λ l i j p q h. chain xs l _ h (swapped l i j p q))

permuted_heads : {Y : Type 0} (o p : Option Y) (ys : List Y) → IsPermutation (cons_option o (cons_option p ys)) (cons_option p (cons_option o ys))
permuted_heads None p ys = IsPermutation-refl (cons_option p ys)
permuted_heads (Some x) None ys = IsPermutation-refl (x ∷ ys)
permuted_heads (Some x) (Some y) ys = IsPermutation-append_left ys (x ∷ y ∷ []) (y ∷ x ∷ []) (IsPermutation-append_comm (x ∷ []) (y ∷ []))

permuted_tail : {Y : Type 0} (o : Option Y) (xs ys : List Y) → IsPermutation xs ys → IsPermutation (cons_option o xs) (cons_option o ys)
permuted_tail None xs ys h = h
permuted_tail (Some x) xs ys h = IsPermutation-cons x xs ys h

pub permuted_kept : {X Y : Type 0} (h : X → Option Y) (xs ys : List X) → IsPermutation xs ys → IsPermutation (filter_map h xs) (filter_map h ys)
permuted_kept h = along_permutation (λ xs ys. IsPermutation (filter_map h xs) (filter_map h ys))
    (λ xs. IsPermutation-refl _)
    (λ x xs ys p. permuted_tail (h x) _ _ p)
    (λ x y xs. permuted_heads (h x) (h y) (filter_map h xs))
    (λ xs ys zs. IsPermutation-trans _ _ _)

permuted_each : {X Y : Type 0} (f g : X → List Y) → ((x : X) → IsPermutation (f x) (g x)) → (xs : List X) → IsPermutation (flat_map f xs) (flat_map g xs)
permuted_each f g each [] = IsPermutation-refl []
permuted_each f g each (x ∷ xs) = IsPermutation-append _ _ _ _ (each x) (permuted_each f g each xs)

-- the moves with the same arcs in another order
pub reordered : (left : List Arc) (qa : ℕ) (row other : List Arc) (qb : ℕ) (f : Filter) → IsPermutation row other → IsPermutation (combinations left qa row qb f) (combinations left qa other qb f)
reordered left qa row other qb f h =
    IsPermutation-append _ _ _ _
    (IsPermutation-append_left (filter_map (first_alone qb f) left) _ _ (permuted_each (λ x. filter_map (joint x) row) (λ x. filter_map (joint x) other) (λ x. permuted_kept (joint x) row other h) left))
    (permuted_kept (second_alone qa) row other h)
