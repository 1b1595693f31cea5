-- Filters as numbers.
use Rattle.std.specs.Prelude.{◌≡◌, ◌==◌, ℕ, zero, suc, ◌+◌, ◌*◌, ◌^◌, ◌<◌, ◌/◌, ◌%◌, List, ◌∷◌, length, if◌then◌else◌}
use Rattle.std.proofs.Common.{refl, subst, ap, arith}
use Rattle.std.proofs.lemmas.Nat.{mod-pow-add}
use Rattle.compose_filter.specs.declared.filters.Filter.{Filter}
use Rattle.compose_filter.specs.declared.filters.Filter.TheVariants.{Open, Closed}
use Rattle.state_tuples.specs.Positions.{bit, bits, filter_at, filters_of}

pub length-filters : (n k : ℕ) → length (filters_of n k) ≡ k
length-filters n zero = refl
length-filters n (suc k) = ap suc (length-filters n k)

bit_is : (r : ℕ) → r < 2 → bit (if r == 0 then Open else Closed) ≡ r
bit_is zero l = refl
bit_is (suc zero) l = refl
bit_is (suc (suc r)) l = absurd (omega arith)

pub bits_of : (n k : ℕ) → bits (filters_of n k) ≡ n % 2 ^ k
bits_of n zero = omega arith
bits_of n (suc k) =
    let low = bits_of n k in
    let b : bit (filter_at n k) ≡ (n / 2 ^ k) % 2 = bit_is ((n / 2 ^ k) % 2) (omega arith) in
    let len = length-filters n k in
    let s : 1 + k ≡ suc k = omega arith in
    let p : n % 2 ^ suc k ≡ (n / 2 ^ k % 2 ^ 1) * 2 ^ k + n % 2 ^ k = subst (λ j. n % 2 ^ j ≡ (n / 2 ^ k % 2 ^ 1) * 2 ^ k + n % 2 ^ k) s (mod-pow-add n 1 k) in
    rw (len, low, b) (omega arith)

pub bits_closed : (n k : ℕ) → n % 2 ^ k + 2 ^ k ≡ bits (Closed ∷ filters_of n k)
bits_closed n k =
    let low = bits_of n k in
    let len = length-filters n k in
    rw (len, low) (omega arith)

pub bits_open : (fs : List Filter) → bits (Open ∷ fs) ≡ bits fs
bits_open fs = omega arith
