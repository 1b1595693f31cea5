-- The first of the entries so far.
use Rattle.std.proofs.Common.{◌≡◌, ◌<◌, ℕ, ◌+◌, List, length, get_or, inl, inr, subst, sym, arith}
use Rattle.std.proofs.lemmas.Bool.{cases_lt}
use Rattle.std.proofs.lemmas.List.{get_or_default}
use Rattle.weighted_relations.specs.Order.{below_refl, below_trans}
use Rattle.search_tests.specs.declared.entries.Entry.{Entry}
use Rattle.search_tests.specs.Entries.{Before}

before_refl : (a : Entry) → Before a a
before_refl a = below_refl a.weight a.output.items

before_trans : (a b c : Entry) → Before a b → Before b c → Before a c
before_trans a b c h k = below_trans a.weight b.weight c.weight a.output.items b.output.items c.output.items h k

-- no entry below n comes before the f-th
abbrev pub FirstOf : List Entry → ℕ → ℕ → Type 0
FirstOf xs f n = (k : ℕ) (d e : Entry) → k < n → Before (get_or xs f d) (get_or xs k e)

at_itself : (xs : List Entry) (i k : ℕ) (d e : Entry) → i < length xs → k ≡ i → Before (get_or xs i d) (get_or xs k e)
at_itself xs i k d e l h = subst (λ n. Before (get_or xs i d) (get_or xs n e)) (sym h) (subst (Before (get_or xs i d)) (get_or_default xs i d e l) (before_refl (get_or xs i d)))

pub first_one : (xs : List Entry) → 0 < length xs → FirstOf xs 0 1
first_one xs l k d e h = at_itself xs 0 k d e l (omega arith)

module _ (xs : List Entry) (f i : ℕ) (a b : Entry) (fl : f < length xs) (il : i < length xs) (ai : a ≡ get_or xs f a) (bi : b ≡ get_or xs i b) (so : FirstOf xs f i) where
  a_at : (d : Entry) → a ≡ get_or xs f d
  a_at d = subst (λ t. a ≡ t) (get_or_default xs f a d fl) ai

  b_at : (d : Entry) → b ≡ get_or xs i d
  b_at d = subst (λ t. b ≡ t) (get_or_default xs i b d il) bi

  pub first_kept : Before a b → FirstOf xs f (i + 1)
  first_kept h k d e l = elim (cases_lt k i) [
    | inl m ↦ so k d e m
    | inr m ↦
        let same : k ≡ i = omega arith in
        subst (λ n. Before (get_or xs f d) (get_or xs n e)) (sym same) (subst (λ t. Before t (get_or xs i e)) (a_at d) (subst (Before a) (b_at e) h))
  ]

  pub first_taken : Before b a → FirstOf xs i (i + 1)
  first_taken h k d e l = elim (cases_lt k i) [
    | inl m ↦ subst (λ t. Before t (get_or xs k e)) (b_at d) (before_trans b a (get_or xs k e) h (subst (λ t. Before t (get_or xs k e)) (sym (a_at d)) (so k d e m)))
    | inr m ↦ at_itself xs i k d e il (omega arith)
  ]
