-- Arcs that are sorted stand in the order of their words.
use Rattle.std.proofs.Common.{Ordering, Less, Equal, Greater}
use Rattle.std.specs.Prelude.{◌≡◌, ℕ, zero, suc, ◌+◌, ◌<◌, ◌⊎◌, false, List, [], ◌∷◌, length, get_or, IsPermutation, IsSorted}
use Rattle.std.specs.Ordering.{nat_cmp, ordering_then, is_lt, MatchOrdering}
use Rattle.std.specs.Cmp.Lexicographic.{slice_cmp}
use Rattle.std.proofs.Common.{refl, sym, ◌∙◌, subst, inl, inr, arith}
use Rattle.std.proofs.lemmas.Bool.{cases_lt}
use Rattle.std.proofs.lemmas.Cmp.{ranked}
use Rattle.std.proofs.lemmas.Option.{slice_get_within, get_or_from_slice_get}
use Rattle.weighted_relations.specs.Least.{BytesBelow}
use Rattle.state_tuples.specs.declared.tuples.TupleArc.{TupleArc}
use Rattle.state_tuples.specs.Orders.{words, Ordered}

abbrev pub arc_cmp : TupleArc → TupleArc → Ordering
arc_cmp a b = ordering_then (nat_cmp a.input b.input) (ordering_then (nat_cmp a.output b.output) (ordering_then (nat_cmp a.weight b.weight) (ordering_then (nat_cmp a.filters b.filters) (slice_cmp nat_cmp a.states b.states))))

below_trans : (x y z : List ℕ) → BytesBelow x y → BytesBelow y z → BytesBelow x z
below_trans [] y z h g = tt
below_trans (a ∷ x) [] z h g = absurd h
below_trans (a ∷ x) (b ∷ y) [] h g = absurd g
below_trans (a ∷ x) (b ∷ y) (c ∷ z) (inl h) (inl g) = inl (omega arith)
below_trans (a ∷ x) (b ∷ y) (c ∷ z) (inl h) (inr g) = inl (let e = g.0 in omega arith)
below_trans (a ∷ x) (b ∷ y) (c ∷ z) (inr h) (inl g) = inl (let e = h.0 in omega arith)
below_trans (a ∷ x) (b ∷ y) (c ∷ z) (inr h) (inr g) = inr (h.0 ∙ g.0, below_trans x y z h.1 g.1)

-- one field of the order
not_less : (x y : ℕ) (o : Ordering) (P : Type 0) → (is_lt o ≡ false → P) → is_lt (ordering_then (nat_cmp x y) o) ≡ false → (y < x) ⊎ ((y ≡ x) × P)
not_less x y o P rest e = by (nat_cmp x y) (ranked x y (nat_cmp x y) refl) e
  where
    by : (r : Ordering) → MatchOrdering r (x < y) (x ≡ y) (y < x) → is_lt (ordering_then r o) ≡ false → (y < x) ⊎ ((y ≡ x) × P)
    by Less m e = absurd (cc)
    by Equal m e = inr (sym m, rest e)
    by Greater m e = inl m

lists_below : (ys xs : List ℕ) → is_lt (slice_cmp nat_cmp ys xs) ≡ false → BytesBelow xs ys
lists_below [] [] e = tt
lists_below [] (x ∷ xs) e = absurd (cc)
lists_below (y ∷ ys) [] e = tt
lists_below (y ∷ ys) (x ∷ xs) e = not_less y x (slice_cmp nat_cmp ys xs) (BytesBelow xs ys) (lists_below ys xs) e

words_below : (b a : TupleArc) → is_lt (arc_cmp b a) ≡ false → BytesBelow (words a) (words b)
words_below b a =
    not_less b.input a.input _ _ (not_less b.output a.output _ _ (not_less b.weight a.weight _ _ (not_less b.filters a.filters _ _ (lists_below b.states a.states))))

in_order : (xs : List TupleArc) → IsSorted arc_cmp xs → (j i : ℕ) (d : TupleArc) → i < j → j < length xs → BytesBelow (words (get_or xs i d)) (words (get_or xs j d))
in_order xs s zero i d l m = absurd (omega arith)
in_order xs s (suc j) i d l m =
    let n : j + 1 ≡ suc j = omega arith in
    let next : BytesBelow (words (get_or xs j d)) (words (get_or xs (suc j) d)) = subst (λ t. BytesBelow (words (get_or xs j d)) (words (get_or xs t d))) n (words_below (get_or xs (j + 1) d) (get_or xs j d) (s j d (omega arith) (omega arith))) in
    elim (cases_lt i j) [
      | inl low ↦ below_trans (words (get_or xs i d)) (words (get_or xs j d)) (words (get_or xs (suc j) d)) (in_order xs s j i d low (omega arith)) next
      | inr high ↦
          let is : j ≡ i = omega arith in
          subst (λ t. BytesBelow (words (get_or xs t d)) (words (get_or xs (suc j) d))) is next
    ]

pub arranged : (old new : List TupleArc) → IsPermutation old new → IsSorted arc_cmp new → Ordered old new
arranged old new p s = record {
  same = p;
  order = λ i j a b l f g.
      let m : j < length new = slice_get_within new j b g in
      let first = get_or_from_slice_get new i a a f in
      let second = get_or_from_slice_get new j b a g in
      subst (λ t. BytesBelow (words t) (words b)) first (subst (λ t. BytesBelow (words (get_or new i a)) (words t)) second (in_order new s j i a l m));
}
