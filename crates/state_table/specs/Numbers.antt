-- Keys that are numbered by their first arrival: the number of a key is its place in their list.
use Rattle.std.specs.Prelude.{◌≡◌, ◌⊎◌, ℕ, List, [], ◌∷◌, ◌++◌, Some, slice_get}

module _ {K : Type 0} where
  -- no key has two numbers
  abbrev pub Distinct : List K → Type 0
  Distinct keys = (i j : ℕ) (k : K) → slice_get keys i ≡ Some k → slice_get keys j ≡ Some k → i ≡ j

  -- what has a number keeps it
  pub record Keeps (old new : List K) : Type 0 where
    pub kept : (i : ℕ) (k : K) → slice_get old i ≡ Some k → slice_get new i ≡ Some k

  -- the key has the number, and at most it is new
  pub record Numbers (old new : List K) (key : K) (number : ℕ) : Type 0 where
    pub stored : slice_get new number ≡ Some key
    pub added : (new ≡ old) ⊎ (new ≡ old ++ key ∷ [])
