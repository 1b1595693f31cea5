-- Outputs by back references, as lists.
use Rattle.std.specs.Prelude.{◌≡◌, ◌<◌, ℕ, ◌+◌, List, [], ◌∷◌, ◌++◌, length, slice_index_or}
use Rattle.least_path.specs.declared.outputs.Letter.{Letter}

-- the outputs so far and those that the letters add, in order
abbrev pub texts_after : List (List ℕ) → List Letter → List (List ℕ)
texts_after known [] = known
texts_after known (l ∷ letters) = texts_after (known ++ (slice_index_or known l.before [] ++ l.label ∷ []) ∷ []) letters

-- the outputs by number; number 0 is the empty one
abbrev pub texts : List Letter → List (List ℕ)
texts letters = texts_after ([] ∷ []) letters

-- each letter goes on from an output before it
abbrev pub IsMade : List Letter → Type 0
IsMade letters = (k : ℕ) (d : Letter) → k < length letters → (slice_index_or letters k d).before < k + 1

-- the output of a number
abbrev pub text_of : List (List ℕ) → ℕ → List ℕ
text_of all n = slice_index_or all n []

-- more outputs, and those that were there
pub record Grows (old new : List (List ℕ)) : Type 0 where
  pub more : List (List ℕ)
  pub is : new ≡ old ++ more
