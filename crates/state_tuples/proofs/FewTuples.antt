-- The tuples of a cascade are few: their filters and states are the digits of a number.
use Rattle.std.specs.Prelude.{◌≡◌, ◌<◌, ℕ, zero, suc, ◌+◌, ◌-◌, ◌*◌, ◌^◌, get_or, length}
use Rattle.std.proofs.Common.{sym, ◌∙◌, ap, subst, arith, inl, inr}
use Rattle.std.proofs.lemmas.List.{ext_get_or}
use Rattle.std.proofs.lemmas.Nat.{mul-add-lt}
use Rattle.std.proofs.lemmas.Bool.{cases_lt}
use Rattle.state_tuples.specs.declared.tuples.Tuple.{Tuple}
use Rattle.state_tuples.specs.Positions.{most_parts}
use Rattle.state_tuples.proofs.Digits.{same_digits}
use Rattle.state_tuples.specs.Cascades.{Cascaded, IsOf, no_part}
use Rattle.state_tuples.specs.Bounds.{AreFew}

module _ (c : Cascaded) where
  -- more than each state of a part; 1 past the last part
  abbrev radix : ℕ → ℕ
  radix k = suc (length (get_or c.parts k no_part).arcs)

  -- the filters, and then the states of the first k parts
  abbrev digits : Tuple → ℕ → ℕ
  digits t zero = t.filters
  digits t (suc k) = digits t k * radix k + get_or t.states k 0

  abbrev limit : ℕ → ℕ
  limit zero = 2 ^ (length c.parts - 1)
  limit (suc k) = radix k * limit k

  state_small : (t : Tuple) (k : ℕ) → IsOf c t → get_or t.states k 0 < radix k
  state_small t k h = elim (cases_lt k (length c.parts)) [
    | inl l ↦ (let s = h.states k l in omega arith)
    | inr l ↦ (let s = h.past k l in omega arith)
  ]

  digits_small : (t : Tuple) (k : ℕ) → IsOf c t → digits t k < limit k
  digits_small t zero h = h.filters
  digits_small t (suc k) h = mul-add-lt (digits t k) (radix k) (get_or t.states k 0) (limit k) (digits_small t k h) (state_small t k h)

  digits_apart : (t u : Tuple) (k : ℕ) → IsOf c t → IsOf c u → digits t k ≡ digits u k
      → (t.filters ≡ u.filters) × ((i : ℕ) → i < k → get_or t.states i 0 ≡ get_or u.states i 0)
  digits_apart t u zero g h e = (e, λ i l. absurd (omega arith))
  digits_apart t u (suc k) g h e =
      let d = same_digits (digits t k) (radix k) (get_or t.states k 0) (digits u k) (get_or u.states k 0) (state_small t k g) (state_small u k h) e in
      let r = digits_apart t u k g h d.0 in (
        r.0,
        λ i l. elim (cases_lt i k) [
          | inl m ↦ r.1 i m
          | inr m ↦ (let same : k ≡ i = omega arith in subst (λ j. get_or t.states j 0 ≡ get_or u.states j 0) same d.1)
        ],
      )

  apart : (t u : Tuple) → IsOf c t → IsOf c u → digits t most_parts ≡ digits u most_parts → t ≡ u
  apart t u g h e =
      let d = digits_apart t u most_parts g h e in
      let states : t.states ≡ u.states = ext_get_or 0 t.states u.states (g.width ∙ sym h.width) (λ i l. d.1 i (let w = g.width in omega arith)) in
      let number : t.cascade ≡ u.cascade = g.number ∙ sym h.number in
      ap (λ n. record { cascade = n; states = t.states; filters = t.filters }) number
      ∙ (ap (λ q. record { cascade = u.cascade; states = q; filters = t.filters }) states
      ∙ ap (λ f. record { cascade = u.cascade; states = u.states; filters = f }) d.0)

  pub tuples_are_few : AreFew c
  tuples_are_few = record {
    bound = limit most_parts;
    code = λ t. digits t most_parts;
    numbered = record { below = λ t h. digits_small t most_parts h; apart = apart };
  }
