-- How positions are written in tuples, and read again.
use Rattle.std.specs.Prelude.{◌≡◌, ◌<◌, ◌≤◌, ℕ, zero, suc, ◌+◌, ◌*◌, ◌^◌, ◌%◌, List, [], ◌∷◌, set, get_or, length}
use Rattle.std.proofs.Common.{refl, sym, ◌∙◌, ap, subst, arith, inl, inr}
use Rattle.std.proofs.lemmas.Bool.{cases_lt}
use Rattle.std.proofs.lemmas.List.{length-set, get_or-set_same, get_or-set_other}
use Rattle.std.proofs.Math.Nat.{pow-suc, mod-eq_of_lt}
use Rattle.weighted_relations.specs.Machines.{Machine, WellFormed}
use Rattle.compose_filter.specs.declared.filters.Filter.{Filter}
use Rattle.compose_filter.specs.declared.filters.Filter.TheVariants.{Open, Closed}
use Rattle.state_tuples.specs.Positions.{back, bit, bits, filters_of, most_parts, padded, zeros}
use Rattle.state_tuples.proofs.Counted.{bits_of}
use Rattle.state_tuples.proofs.Digits.{same_digits}
use Rattle.state_tuples.specs.Cascades.{no_part}

pub length_back : {X : Type 0} (d : X) (xs : List X) (k : ℕ) → length (back d xs k) ≡ k
length_back d xs zero = refl
length_back d xs (suc k) = ap suc (length_back d xs k)

pub length_filters : (n k : ℕ) → length (filters_of n k) ≡ k
length_filters n zero = refl
length_filters n (suc k) = ap suc (length_filters n k)

length_zeros : (n : ℕ) → length (zeros n) ≡ n
length_zeros zero = refl
length_zeros (suc n) = ap suc (length_zeros n)

zeros_at : (n k : ℕ) → get_or (zeros n) k 0 ≡ 0
zeros_at zero k = refl
zeros_at (suc n) zero = refl
zeros_at (suc n) (suc k) = zeros_at n k

pub length_padded : (qs : List ℕ) → length (padded qs) ≡ most_parts
length_padded [] = length_zeros most_parts
length_padded (q ∷ qs) = length-set (padded qs) (length qs) q ∙ length_padded qs

pub bits_small : (fs : List Filter) → bits fs < 2 ^ length fs
bits_small [] = omega arith
bits_small (Open ∷ fs) = (let h = bits_small fs in let p = pow-suc 2 (length fs) in omega arith)
bits_small (Closed ∷ fs) = (let h = bits_small fs in let p = pow-suc 2 (length fs) in omega arith)

-- past the states there are zeros
pub padded_past : (qs : List ℕ) (k : ℕ) → length qs ≤ k → get_or (padded qs) k 0 ≡ 0
padded_past [] k l = zeros_at most_parts k
padded_past (q ∷ qs) k l = get_or-set_other (padded qs) (length qs) k q 0 (λ e. omega arith) ∙ padded_past qs k (omega arith)

-- states and filters that are written in a tuple
back_below : (xs : List ℕ) (n q k : ℕ) → k ≤ n → back 0 (set xs n q) k ≡ back 0 xs k
back_below xs n q zero l = refl
back_below xs n q (suc k) l =
    let here : get_or (set xs n q) k 0 ≡ get_or xs k 0 = get_or-set_other xs n k q 0 (λ e. omega arith) in
    let rest : back 0 (set xs n q) k ≡ back 0 xs k = back_below xs n q k (omega arith) in
    cc

pub states_again : (qs : List ℕ) → length qs ≤ most_parts → back 0 (padded qs) (length qs) ≡ qs
states_again [] l = refl
states_again (q ∷ qs) l =
    let width = length_padded qs in
    let here : get_or (set (padded qs) (length qs) q) (length qs) 0 ≡ q = get_or-set_same (padded qs) (length qs) q 0 (omega arith) in
    let below : back 0 (set (padded qs) (length qs) q) (length qs) ≡ back 0 (padded qs) (length qs) = back_below (padded qs) (length qs) q (length qs) (omega arith) in
    let rest : back 0 (padded qs) (length qs) ≡ qs = states_again qs (omega arith) in
    cc

same_bit : (f g : Filter) → bit f ≡ bit g → f ≡ g
same_bit Open Open e = refl
same_bit Open Closed e = absurd (omega (arith, e))
same_bit Closed Open e = absurd (omega (arith, e))
same_bit Closed Closed e = refl

same_bits : (fs gs : List Filter) → length fs ≡ length gs → bits fs ≡ bits gs → fs ≡ gs
same_bits [] [] n e = refl
same_bits [] (g ∷ gs) n e = absurd (cc)
same_bits (f ∷ fs) [] n e = absurd (cc)
same_bits (f ∷ fs) (g ∷ gs) n e =
    let m : length gs ≡ length fs = cc in
    let high : bits gs < 2 ^ length fs = subst (λ k. bits gs < 2 ^ k) m (bits_small gs) in
    let other : bits gs + bit g * 2 ^ length gs ≡ bits gs + bit g * 2 ^ length fs = ap (λ k. bits gs + bit g * 2 ^ k) m in
    let d = same_digits (bit f) (2 ^ length fs) (bits fs) (bit g) (bits gs) (bits_small fs) high (omega arith) in
    let first : f ≡ g = same_bit f g d.0 in
    let rest : fs ≡ gs = same_bits fs gs (sym m) d.1 in
    cc

pub filters_again : (fs : List Filter) → filters_of (bits fs) (length fs) ≡ fs
filters_again fs =
    let low : bits fs % 2 ^ length fs ≡ bits fs = mod-eq_of_lt (bits_small fs) in
    same_bits (filters_of (bits fs) (length fs)) fs (length_filters (bits fs) (length fs)) (bits_of (bits fs) (length fs) ∙ low)

-- The parts are transducers, and each is in one of its states.
abbrev pub Placed : List Machine → List ℕ → Type 0
Placed [] [] = Unit {0}
Placed (m ∷ ms) (q ∷ qs) = WellFormed m × (q < length m.arcs) × Placed ms qs
Placed _ _ = ⊥

pub placed : (parts : List Machine) (states : List ℕ) (n : ℕ)
    → ((k : ℕ) → k < n → WellFormed (get_or parts k no_part))
    → ((k : ℕ) → k < n → get_or states k 0 < length (get_or parts k no_part).arcs)
    → Placed (back no_part parts n) (back 0 states n)
placed parts states zero sound h = tt
placed parts states (suc n) sound h =
    let rest = placed parts states n (λ k l. sound k (omega arith)) (λ k l. h k (omega arith)) in
    (sound n (omega arith), h n (omega arith), rest)

placed_length : (ms : List Machine) (qs : List ℕ) → Placed ms qs → length qs ≡ length ms
placed_length [] [] p = refl
placed_length [] (q ∷ qs) p = absurd p
placed_length (m ∷ ms) [] p = absurd p
placed_length (m ∷ ms) (q ∷ qs) p = ap suc (placed_length ms qs p.2)

-- the states in a tuple
pub placed_states : (parts : List Machine) (n : ℕ) (qs : List ℕ) → n ≤ most_parts → Placed (back no_part parts n) qs
    → (k : ℕ) → k < n → get_or (padded qs) k 0 < length (get_or parts k no_part).arcs
placed_states parts zero qs few p k l = absurd (omega arith)
placed_states parts (suc n) [] few p k l = absurd p
placed_states parts (suc n) (q ∷ qs) few p k l =
    let count : length qs ≡ n = placed_length (back no_part parts n) qs p.2 ∙ length_back no_part parts n in
    elim (cases_lt k n) [
      | inl m ↦ rw (get_or-set_other (padded qs) (length qs) k q 0 (λ e. omega arith)) (placed_states parts n qs (omega arith) p.2 k m)
      | inr m ↦
          let same : k ≡ n = omega arith in
          let width = length_padded qs in
          let at : get_or (set (padded qs) (length qs) q) (length qs) 0 ≡ q = get_or-set_same (padded qs) (length qs) q 0 (omega arith) in
          let here : get_or (set (padded qs) (length qs) q) k 0 ≡ q = ap (λ i. get_or (set (padded qs) (length qs) q) i 0) (same ∙ sym count) ∙ at in
          subst (λ i. get_or (padded (q ∷ qs)) k 0 < length (get_or parts i no_part).arcs) (sym same) (rw here p.1)
    ]
