-- The codes of the expansions of a cascade are read back as these.
use Rattle.std.specs.Prelude.{◌≡◌, ◌<◌, ◌≤◌, ◌^◌, ◌-◌, ℕ, List, [], ◌∷◌, ◌++◌, All, Bool, true, false, cond, drop, take, get_or, length, IsPermutation}
use Rattle.std.specs.List.{filter, AllPairs}
use Rattle.std.proofs.Common.{sym, ◌∙◌, ap, subst, arith}
use Rattle.std.proofs.Math.Nat.{pow-le-pow_right}
use Rattle.std.proofs.lemmas.List.{drop_at, take_at}
use Rattle.std.proofs.lemmas.Option.{slice_get-get_or, slice_get_within, get_or_from_slice_get}
use Rattle.std.proofs.lemmas.List.Kept.{AllPairs-filter}
use Rattle.std.proofs.lemmas.List.Sorted.{All-permutation, IsPermutation-append_comm, IsPermutation-append_left, IsPermutation-cons, IsPermutation-refl, IsPermutation-trans}
use Rattle.weighted_relations.specs.Least.{BytesBelow}
use Rattle.compose_filter.proofs.Permutations.{along_permutation}
use Rattle.state_tuples.specs.declared.tuples.Tuple.{Tuple}
use Rattle.state_tuples.specs.declared.tuples.TupleArc.{TupleArc}
use Rattle.state_tuples.specs.Bounds.{MoveFits}
use Rattle.state_tuples.specs.Cascades.{Cascaded, IsOf, IsSound, end_of, moves_of}
use Rattle.state_tuples.specs.Codes.{IsArc, IsCodeOf, IsExpansionCode, IsTuple, key}
use Rattle.state_tuples.specs.Orders.{InOrder, Ordered, words}
use Rattle.state_tuples.specs.Positions.{most_parts}
use Rattle.state_tuples.proofs.ClosedTuples.{tuples_are_closed}

-- what is kept of a list and of the same list in another order
kept_tail : {X : Type 0} (b : Bool) (x : X) (xs ys : List X) → IsPermutation xs ys → IsPermutation (cond b (x ∷ xs) xs) (cond b (x ∷ ys) ys)
kept_tail true x xs ys h = IsPermutation-cons x xs ys h
kept_tail false x xs ys h = h

kept_heads : {X : Type 0} (b c : Bool) (x y : X) (xs : List X)
    → IsPermutation (cond b (x ∷ cond c (y ∷ xs) xs) (cond c (y ∷ xs) xs)) (cond c (y ∷ cond b (x ∷ xs) xs) (cond b (x ∷ xs) xs))
kept_heads true true x y xs = IsPermutation-append_left xs (x ∷ y ∷ []) (y ∷ x ∷ []) (IsPermutation-append_comm (x ∷ []) (y ∷ []))
kept_heads true false x y xs = IsPermutation-refl (x ∷ xs)
kept_heads false true x y xs = IsPermutation-refl (y ∷ xs)
kept_heads false false x y xs = IsPermutation-refl xs

kept : {X : Type 0} (p : X → Bool) (xs ys : List X) → IsPermutation xs ys → IsPermutation (filter p xs) (filter p ys)
kept p = along_permutation (λ xs ys. IsPermutation (filter p xs) (filter p ys))
    (λ xs. IsPermutation-refl _)
    (λ x xs ys h. kept_tail (p x) x (filter p xs) (filter p ys) h)
    (λ x y xs. kept_heads (p x) (p y) x y (filter p xs))
    (λ xs ys zs. IsPermutation-trans _ _ _)

-- arcs that are kept stand in order
abbrev in_order : TupleArc → TupleArc → Type 0
in_order a b = BytesBelow (words a) (words b)

as_pairs : (arcs : List TupleArc) → InOrder arcs → AllPairs in_order arcs
as_pairs arcs h i j d l m = h i j (get_or arcs i d) (get_or arcs j d) l (slice_get-get_or arcs i d (omega arith)) (slice_get-get_or arcs j d m)

from_pairs : (arcs : List TupleArc) → AllPairs in_order arcs → InOrder arcs
from_pairs arcs h i j a b l f g =
    subst (λ x. BytesBelow (words x) (words b)) (get_or_from_slice_get arcs i a a f)
    (subst (λ x. BytesBelow (words (get_or arcs i a)) (words x)) (get_or_from_slice_get arcs j b a g) (h i j a l (slice_get_within arcs j b g)))

pub ordered_kept : (p : TupleArc → Bool) (all arcs : List TupleArc) → Ordered all arcs → Ordered (filter p all) (filter p arcs)
ordered_kept p all arcs h = record {
  same = kept p all arcs h.same;
  order = from_pairs (filter p arcs) (AllPairs-filter in_order p arcs (as_pairs arcs h.order));
}

-- what is asked of a code that is read
module _ (c : Cascaded) (sound : IsSound c) (few : c.number < 4294967296) (t : Tuple) (known : IsOf c t) where
  filters_small : (filters : ℕ) → filters < 2 ^ (length c.parts - 1) → filters < 65536
  filters_small filters h =
      let n = sound.few in
      let p : 2 ^ (length c.parts - 1) ≤ 2 ^ 16 = pow-le-pow_right {n = 2} (omega arith) {i = length c.parts - 1} {j = 16} (omega arith) in
      omega arith

  pub is_tuple : IsTuple t
  is_tuple = (let n = known.number in let f = filters_small t.filters known.filters in record { cascade = omega arith; states = known.width; filters = omega arith })

  all_arcs : All IsArc (moves_of c t)
  all_arcs k a l =
      let x : MoveFits c t (get_or (moves_of c t) k a) = (tuples_are_closed c sound).moves t k (get_or (moves_of c t) k a) known (slice_get-get_or (moves_of c t) k a l) in
      let i = x.input in let o = x.output in
      record { input = omega arith; output = omega arith; filters = filters_small _ x.next.filters; states = x.next.width }

  pub is_code : (code : List ℕ) (x : IsExpansionCode c t code) → IsCodeOf t (end_of c t) x.0 code
  is_code code x = record { is_tuple = is_tuple; are_arcs = All-permutation IsArc (moves_of c t) x.0 x.1.same all_arcs; is_code = x.2 }

-- a key names one tuple
pub one_key : (t u : Tuple) → length t.states ≡ most_parts → length u.states ≡ most_parts → key t ≡ key u → t ≡ u
one_key t u h g e =
    let cascade : t.cascade ≡ u.cascade = ap (λ l. get_or l 0 0) e in
    let rest : t.states ++ t.filters ∷ [] ≡ u.states ++ u.filters ∷ [] = ap (drop 1) e in
    let states : t.states ≡ u.states = sym (take_at t.states (t.filters ∷ []) most_parts h) ∙ (ap (take most_parts) rest ∙ take_at u.states (u.filters ∷ []) most_parts g) in
    let filters : t.filters ≡ u.filters =
    ap (λ l. get_or l 0 0) (sym (drop_at t.states (t.filters ∷ []) most_parts h) ∙ (ap (drop most_parts) rest ∙ drop_at u.states (u.filters ∷ []) most_parts g)) in
    λ i. record { cascade = cascade i; states = states i; filters = filters i }
