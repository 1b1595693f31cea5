-- Lists of states with zeros after them.
use Rattle.std.specs.Prelude.{◌≡◌, ℕ, zero, suc, ◌+◌, ◌<◌, ◌≤◌, ◌-◌, List, length, get_or, set}
use Rattle.std.proofs.Common.{refl, sym, ◌∙◌, ap, subst, inl, inr, arith}
use Rattle.std.proofs.lemmas.List.{get_or-set_same, get_or-set_other}
use Rattle.std.proofs.lemmas.Bool.{cases_lt}
use Rattle.std.proofs.lemmas.Nat.{pow_pos}
use Rattle.weighted_relations.specs.Machines.{Machine, WellFormed}
use Rattle.compose_filter.specs.ComposedPaths.{starts}
use Rattle.state_tuples.specs.Positions.{back, most_parts, padded}
use Rattle.state_tuples.proofs.Places.{length_back, length_padded, padded_past}
use Rattle.state_tuples.specs.Cascades.{Cascaded, IsOf, IsSound, no_part, backwards, first_tuple}

-- where the first n parts start
pub length-starts : (ms : List Machine) (n : ℕ) → length (starts (back no_part ms n)) ≡ n
length-starts ms zero = refl
length-starts ms (suc n) = ap suc (length-starts ms n)

pub starts_more : (ms : List Machine) (n : ℕ) → padded (starts (back no_part ms (suc n))) ≡ set (padded (starts (back no_part ms n))) n (get_or ms n no_part).start
starts_more ms n = ap (λ i. set (padded (starts (back no_part ms n))) i (get_or ms n no_part).start) (length-starts ms n)

pub starts_at : (ms : List Machine) (n k : ℕ) → n ≤ most_parts → k < n → get_or (padded (starts (back no_part ms n))) k 0 ≡ (get_or ms k no_part).start
starts_at ms zero k few l = absurd (omega arith)
starts_at ms (suc n) k few l =
    let xs = padded (starts (back no_part ms n)) in
    let w : length xs ≡ most_parts = length_padded (starts (back no_part ms n)) in
    let here : n < length xs = omega arith in
    ap (λ t. get_or t k 0) (starts_more ms n) ∙ elim (cases_lt k n) [
      | inl low ↦ get_or-set_other xs n k (get_or ms n no_part).start 0 (λ e. omega arith) ∙ starts_at ms n k (omega arith) low
      | inr high ↦
          let is : n ≡ k = omega arith in
          subst (λ (j : ℕ). get_or (set xs n (get_or ms n no_part).start) j 0 ≡ (get_or ms j no_part).start) is (get_or-set_same xs n (get_or ms n no_part).start 0 here)
    ]

pub starts_known : (c : Cascaded) → IsSound c → IsOf c (first_tuple c)
starts_known c h =
    let n = length c.parts in
    let few : n ≤ most_parts = h.few in
    record {
      number = refl;
      width = length_padded (starts (backwards c));
      states = λ k l.
          let w : WellFormed (get_or c.parts k no_part) = h.parts k no_part l in
          subst (λ s. s < length (get_or c.parts k no_part).arcs) (sym (starts_at c.parts n k few l)) w.start;
      past = λ k l. padded_past (starts (backwards c)) k (let e = length-starts c.parts n in omega arith);
      filters = pow_pos (n - 1);
    }

pub back_more : (xs : List ℕ) (n : ℕ) → padded (back 0 xs (n + 1)) ≡ set (padded (back 0 xs n)) n (get_or xs n 0)
back_more xs n =
    let s : suc n ≡ n + 1 = omega arith in
    subst (λ j. padded (back 0 xs j) ≡ set (padded (back 0 xs n)) n (get_or xs n 0)) s (ap (λ i. set (padded (back 0 xs n)) i (get_or xs n 0)) (length_back 0 xs n))
