-- Lines one after another, in parts.
use Rattle.std.proofs.Common.{◌≡◌, ℕ, zero, suc, ◌+◌, List, [], ◌∷◌, ◌++◌, refl, ap, sym, ◌∙◌, append_assoc, append-nil, add-one, length, length-append, arith}
use Rattle.sample_lines.specs.Lines.{line, sampled}

-- no lines
pub sampled-none : (x : ℕ) → (sampled 0 x).value ≡ []
unfolding sampled
sampled-none x = refl

pub state-none : (x : ℕ) → (sampled 0 x).state ≡ x
unfolding sampled
state-none x = refl

-- one line more
pub sampled-more : (n x : ℕ) → (sampled (n + 1) x).value ≡ (sampled n x).value ++ ((line (sampled n x).state).value ∷ [])
unfolding sampled
sampled-more n x = rw add-one refl

pub state-more : (n x : ℕ) → (sampled (n + 1) x).state ≡ (line (sampled n x).state).state
unfolding sampled
state-more n x = rw add-one refl

-- n lines more go on from the state of the first ones
pub state-then : (m n x : ℕ) → (sampled (m + n) x).state ≡ (sampled n (sampled m x).state).state
unfolding sampled
state-then m zero x = let e : m + 0 ≡ m = omega arith in rw e refl
state-then m (suc n) x = let e : m + suc n ≡ suc (m + n) = omega arith in rw e (ap (λ s. (line s).state) (state-then m n x))

pub sampled-then : (m n x : ℕ) → (sampled (m + n) x).value ≡ (sampled m x).value ++ (sampled n (sampled m x).state).value
unfolding sampled
sampled-then m zero x = let e : m + 0 ≡ m = omega arith in rw e (sym (append-nil (sampled m x).value))
sampled-then m (suc n) x =
    let first = (sampled m x).value in
    let next = (sampled n (sampled m x).state) in
    let e : m + suc n ≡ suc (m + n) = omega arith in
    rw e (ap (λ s. (sampled (m + n) x).value ++ ((line s).value ∷ [])) (state-then m n x)
    ∙ ap (λ (t : List (List ℕ)). t ++ ((line next.state).value ∷ [])) (sampled-then m n x)
    ∙ append_assoc first next.value ((line next.state).value ∷ []))

-- so many lines are as many
pub length-sampled : (n x : ℕ) → length (sampled n x).value ≡ n
unfolding sampled
length-sampled zero x = refl
length-sampled (suc n) x =
    let before = length-sampled n x in
    let both = length-append (sampled n x).value ((line (sampled n x).state).value ∷ []) in
    omega (arith, before, both)
