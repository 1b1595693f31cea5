-- Laws of the order of readings, on which a search rests.
use Rattle.std.specs.Prelude.{◌≡◌, ◌<◌, ◌⊎◌, ℕ, ◌+◌, List, [], ◌∷◌, ◌++◌, length, Option, Some, None}
use Rattle.std.proofs.Common.{inl, inr, arith, refl, ap, length-append, ◌∙◌}
use Rattle.std.proofs.lemmas.Bool.{cases_lt}
use Rattle.weighted_relations.specs.Relations.{Relation}
use Rattle.weighted_relations.specs.Least.{BytesBelow, Below, Least}

bytes_refl : (x : List ℕ) → BytesBelow x x
bytes_refl [] = tt
bytes_refl (a ∷ x) = inr (refl, bytes_refl x)

bytes_total : (x y : List ℕ) → length x ≡ length y → BytesBelow x y ⊎ BytesBelow y x
bytes_total [] y e = inl tt
bytes_total (a ∷ x) [] e = absurd (omega (arith, e))
bytes_total (a ∷ x) (b ∷ y) e =
    elim (cases_lt a b) [
      | inl l ↦ inl (inl l)
      | inr l ↦ elim (cases_lt b a) [
        | inl m ↦ inr (inl m)
        | inr m ↦
            let same : a ≡ b = omega arith in
            let there : b ≡ a = omega arith in
            elim (bytes_total x y (omega (arith, e))) [ inl h ↦ inl (inr (same, h)) | inr h ↦ inr (inr (there, h)) ]
      ]
    ]

bytes_trans : (x y z : List ℕ) → BytesBelow x y → BytesBelow y z → BytesBelow x z
bytes_trans [] y z h k = tt
bytes_trans (a ∷ x) [] z h k = absurd h
bytes_trans (a ∷ x) (b ∷ y) [] h k = absurd k
bytes_trans (a ∷ x) (b ∷ y) (c ∷ z) (inl h) (inl k) = inl (omega (arith, h, k))
bytes_trans (a ∷ x) (b ∷ y) (c ∷ z) (inl h) (inr k) = inl (omega (arith, h, k.0))
bytes_trans (a ∷ x) (b ∷ y) (c ∷ z) (inr h) (inl k) = inl (omega (arith, h.0, k))
bytes_trans (a ∷ x) (b ∷ y) (c ∷ z) (inr h) (inr k) = inr (h.0 ∙ k.0, bytes_trans x y z h.1 k.1)

bytes_after : (x y z : List ℕ) → length x ≡ length y → BytesBelow x y → BytesBelow (x ++ z) (y ++ z)
bytes_after [] [] z e h = bytes_refl z
bytes_after [] (b ∷ y) z e h = absurd (omega (arith, e))
bytes_after (a ∷ x) [] z e h = absurd h
bytes_after (a ∷ x) (b ∷ y) z e (inl h) = inl h
bytes_after (a ∷ x) (b ∷ y) z e (inr h) = inr (h.0, bytes_after x y z (omega (arith, e)) h.1)

pub below_refl : (w : ℕ) (x : List ℕ) → Below w x w x
below_refl w x = inr (refl, inr (refl, bytes_refl x))

pub below_total : (v w : ℕ) (x y : List ℕ) → Below v x w y ⊎ Below w y v x
below_total v w x y =
    elim (cases_lt v w) [
      | inl l ↦ inl (inl l)
      | inr l ↦ elim (cases_lt w v) [
        | inl m ↦ inr (inl m)
        | inr m ↦
            let same : v ≡ w = omega arith in
            let there : w ≡ v = omega arith in
            elim (cases_lt (length x) (length y)) [
              | inl p ↦ inl (inr (same, inl p))
              | inr p ↦ elim (cases_lt (length y) (length x)) [
                | inl q ↦ inr (inr (there, inl q))
                | inr q ↦
                    let e : length x ≡ length y = omega arith in
                    let f : length y ≡ length x = omega arith in
                    elim (bytes_total x y e) [ inl h ↦ inl (inr (same, inr (e, h))) | inr h ↦ inr (inr (there, inr (f, h))) ]
              ]
            ]
      ]
    ]

-- the same output and weight after both
pub below_after : (v w u : ℕ) (x y z : List ℕ) → Below v x w y → Below (v + u) (x ++ z) (w + u) (y ++ z)
below_after v w u x y z (inl h) = inl (omega (arith, h))
below_after v w u x y z (inr h) =
    let same : v + u ≡ w + u = omega (arith, h.0) in
    let m : length (x ++ z) ≡ length x + length z = length-append x z in
    let n : length (y ++ z) ≡ length y + length z = length-append y z in
    inr (same, elim h.1 [ inl l ↦ inl (omega arith) | inr k ↦ inr ((let e : length x ≡ length y = k.0 in omega arith), bytes_after x y z k.0 k.1) ])

bytes_prefix : (y z : List ℕ) → BytesBelow y (y ++ z)
bytes_prefix [] z = tt
bytes_prefix (a ∷ y) z = inr (refl, bytes_prefix y z)

-- what goes on is no less
pub below_more : (w u : ℕ) (y z : List ℕ) → Below w y (w + u) (y ++ z)
below_more w u y z =
    let n : length (y ++ z) ≡ length y + length z = length-append y z in
    elim (cases_lt w (w + u)) [
      | inl l ↦ inl l
      | inr l ↦ inr (
        (let e : w ≡ w + u = omega arith in e),
        elim (cases_lt (length y) (length (y ++ z))) [
          | inl m ↦ inl m
          | inr m ↦ inr ((let e : length y ≡ length (y ++ z) = omega arith in e), bytes_prefix y z)
        ],
      )
    ]

pub below_trans : (u v w : ℕ) (x y z : List ℕ) → Below u x v y → Below v y w z → Below u x w z
below_trans u v w x y z (inl h) (inl k) = inl (omega (arith, h, k))
below_trans u v w x y z (inl h) (inr k) = inl (omega (arith, h, k.0))
below_trans u v w x y z (inr h) (inl k) = inl (omega (arith, h.0, k))
below_trans u v w x y z (inr h) (inr k) = inr (h.0 ∙ k.0, lengths x y z h.1 k.1) where
  lengths : (x y z : List ℕ) → (length x < length y) ⊎ ((length x ≡ length y) × BytesBelow x y) → (length y < length z) ⊎ ((length y ≡ length z) × BytesBelow y z) → (length x < length z) ⊎ ((length x ≡ length z) × BytesBelow x z)
  lengths x y z (inl h) (inl k) = inl (omega (arith, h, k))
  lengths x y z (inl h) (inr k) = inl (omega (arith, h, k.0))
  lengths x y z (inr h) (inl k) = inl (omega (arith, h.0, k))
  lengths x y z (inr h) (inr k) = inr (h.0 ∙ k.0, bytes_trans x y z h.1 k.1)

bytes_antisym : (x y : List ℕ) → BytesBelow x y → BytesBelow y x → x ≡ y
bytes_antisym [] [] h k = refl
bytes_antisym [] (b ∷ y) h k = absurd k
bytes_antisym (a ∷ x) [] h k = absurd h
bytes_antisym (a ∷ x) (b ∷ y) (inl h) (inl k) = absurd (omega (arith, h, k))
bytes_antisym (a ∷ x) (b ∷ y) (inl h) (inr k) = absurd (omega (arith, h, k.0))
bytes_antisym (a ∷ x) (b ∷ y) (inr h) (inl k) = absurd (omega (arith, h.0, k))
bytes_antisym (a ∷ x) (b ∷ y) (inr h) (inr k) = ap (λ c. c ∷ x) h.0 ∙ ap (λ z. b ∷ z) (bytes_antisym x y h.1 k.1)

-- two that are no greater than one another are the same
pub below_antisym : (v w : ℕ) (x y : List ℕ) → Below v x w y → Below w y v x → (v ≡ w) × (x ≡ y)
below_antisym v w x y (inl h) (inl k) = absurd (omega (arith, h, k))
below_antisym v w x y (inl h) (inr k) = absurd (omega (arith, h, k.0))
below_antisym v w x y (inr h) (inl k) = absurd (omega (arith, h.0, k))
below_antisym v w x y (inr h) (inr k) = (h.0, outputs h.1 k.1) where
  outputs : (length x < length y) ⊎ ((length x ≡ length y) × BytesBelow x y) → (length y < length x) ⊎ ((length y ≡ length x) × BytesBelow y x) → x ≡ y
  outputs (inl h) (inl k) = absurd (omega (arith, h, k))
  outputs (inl h) (inr k) = absurd (omega (arith, h, k.0))
  outputs (inr h) (inl k) = absurd (omega (arith, h.0, k))
  outputs (inr h) (inr k) = bytes_antisym x y h.1 k.1

-- a relation has one least reading at a set of inputs, or none
pub least_unique : (R : Relation) (X : List ℕ → Type 0) (a b : Option (ℕ × List ℕ)) → Least R X a → Least R X b → a ≡ b
least_unique R X None None h k = refl
least_unique R X None (Some (w, y)) h k = absurd (h k.reads.0 y w k.reads.1 k.reads.2)
least_unique R X (Some (w, y)) None h k = absurd (k h.reads.0 y w h.reads.1 h.reads.2)
least_unique R X (Some (w, y)) (Some (v, z)) h k =
    let same : (w ≡ v) × (y ≡ z) = below_antisym w v y z (h.least k.reads.0 z v k.reads.1 k.reads.2) (k.least h.reads.0 y w h.reads.1 h.reads.2) in
    ap (λ u. Some (u, y)) same.0 ∙ ap (λ t. Some (v, t)) same.1
