-- The least reading of a relation at a set of inputs.
use Rattle.std.specs.Prelude.{◌≡◌, ◌<◌, ◌⊎◌, ℕ, List, [], ◌∷◌, length, Option, Some, None}
use Rattle.weighted_relations.specs.Relations.{Relation}

-- byte by byte
abbrev pub BytesBelow : List ℕ → List ℕ → Type 0
BytesBelow [] y = Unit {0}
BytesBelow (a ∷ x) [] = ⊥
BytesBelow (a ∷ x) (b ∷ y) = (a < b) ⊎ ((a ≡ b) × BytesBelow x y)

-- weights first, then lengths, then outputs byte by byte
abbrev pub Below : ℕ → List ℕ → ℕ → List ℕ → Type 0
Below v x w y = (v < w) ⊎ ((v ≡ w) × ((length x < length y) ⊎ ((length x ≡ length y) × BytesBelow x y)))

-- a reading at one of the inputs, and none is below it
pub record IsLeast (R : Relation) (X : List ℕ → Type 0) (w : ℕ) (y : List ℕ) : Type 0 where
  pub reads : (x : List ℕ) × X x × R x y w
  pub least : (x z : List ℕ) (v : ℕ) → X x → R x z v → Below w y v z

-- the least reading, or none exactly where there is none
abbrev pub Least : Relation → (List ℕ → Type 0) → Option (ℕ × List ℕ) → Type 0
Least R X None = (x y : List ℕ) (w : ℕ) → X x → R x y w → ⊥
Least R X (Some (w, y)) = IsLeast R X w y
