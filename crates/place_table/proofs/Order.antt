-- The ways of a key, one after another.
use Rattle.std.proofs.Common.{◌≡◌, ℕ, zero, suc, ◌+◌, ◌-◌, ◌%◌, ◌<◌, ◌≤◌, List, [], ◌∷◌, ◌++◌, length, get_or, take, sym, refl, ap, ◌∙◌, arith, length-append, inl, inr, Bool, true, false, if◌then◌else◌, ltb}
use Rattle.std.proofs.lemmas.List.{take-append-le, get_or-append_right, get_or_append_left, take_all}
use Rattle.std.proofs.lemmas.Bool.{cases_lt}
use Rattle.place_table.specs.Ways.{first_ways, hash, way_at, way_count, ways}

pub ways_length : (key : List ℕ) (n k : ℕ) → length (first_ways key n k) ≡ k
ways_length key n zero = refl
ways_length key n (suc k) = let e = length-append (first_ways key n k) (way_at key n k ∷ []) in let i = ways_length key n k in omega arith

pub ways_take : (key : List ℕ) (n m k : ℕ) → k ≤ m → take k (first_ways key n m) ≡ first_ways key n k
ways_take key n zero k le = ap (λ (z : ℕ). take z (first_ways key n zero)) (let e : k ≡ 0 = omega arith in e) ∙ ap (λ (z : ℕ). first_ways key n z) (let e : 0 ≡ k = omega arith in e)
ways_take key n (suc m) k le = elim (cases_lt m k) [
  | inl l ↦ ap (λ (z : ℕ). take z (first_ways key n (suc m))) (let e : k ≡ suc m = omega arith in e)
      ∙ take_all (suc m) (first_ways key n (suc m)) (let e = ways_length key n (suc m) in omega arith)
      ∙ ap (λ (z : ℕ). first_ways key n z) (let e : suc m ≡ k = omega arith in e)
  | inr l ↦ take-append-le k (first_ways key n m) (way_at key n m ∷ []) (let e = ways_length key n m in omega arith) ∙ ways_take key n m k l
]

pub ways_at : (key : List ℕ) (n m k : ℕ) → k < m → get_or (first_ways key n m) k 0 ≡ way_at key n k
ways_at key n zero k lt = absurd (omega arith)
ways_at key n (suc m) k lt = elim (cases_lt k m) [
  | inl l ↦ get_or_append_left (first_ways key n m) (way_at key n m ∷ []) 0 k (let e = ways_length key n m in omega arith) ∙ ways_at key n m k l
  | inr l ↦ get_or-append_right (first_ways key n m) (way_at key n m ∷ []) m k 0 (ways_length key n m) l
      ∙ ap (λ (z : ℕ). get_or (way_at key n m ∷ []) z 0) (let e : k - m ≡ 0 = omega arith in e) ∙ ap (way_at key n) (let e : m ≡ k = omega arith in e)
]

pub ways_next : (key : List ℕ) (n i p : ℕ) → p ≡ way_at key n i → first_ways key n (i + 1) ≡ first_ways key n i ++ p ∷ []
ways_next key n i p is = sym (ap (λ (z : ℕ). first_ways key n i ++ z ∷ []) is ∙ ap (first_ways key n) (let e : suc i ≡ i + 1 = omega arith in e))

-- the way k is among the ways of the key
pub way_here : (key : List ℕ) (n k p : ℕ) → k < way_count n → p ≡ way_at key n k → (k < length (ways key n)) × (get_or (ways key n) k 0 ≡ p)
way_here key n k p lt is = (let e = ways_length key n (way_count n) in omega arith, ways_at key n (way_count n) k lt ∙ sym is)

either : (b : Bool) (n : ℕ) → 1 ≤ n → 1 ≤ (if b then n else 4)
either true n h = h
either false n h = omega arith

-- there is a way
pub some_way : (key : List ℕ) (n : ℕ) → 1 ≤ n → 0 < length (ways key n)
some_way key n some_place = let e = ways_length key n (way_count n) in let one = either (ltb n 4) n some_place in omega arith

-- the way of the number i, counted from the first
pub way_told : (key key' : List ℕ) (n m first i : ℕ) → first ≡ hash key' % m → key' ≡ key → m ≡ n → (first + i) % m ≡ way_at key n i
way_told key key' n m first i told same all = λ j. ((told ∙ (λ k. hash (same k) % all k)) j + i) % all j
