-- Steps one after another, as the lexemes of a text or the statements of a file.
use Rattle.std.specs.Prelude.{◌≡◌, List, [], ◌∷◌, ◌++◌, Option, Some, None}

-- the front of the first list before the last one is these steps
pub data Many {A X : Type 0} (P : List A → X → List A → Type 0) : List A → List X → List A → Type 0 where
  none : {a : List A} → Many P a [] a
  more : {a b c : List A} {x : X} {xs : List X} → P a x b → Many P b xs c → Many P a (x ∷ xs) c

-- the longest list of steps: every list of steps begins it
pub record Longest {A X : Type 0} (P : List A → X → List A → Type 0) (a : List A) (xs : List X) (rest : List A) : Type 0 where
  pub list : Many P a xs rest
  pub only : (ys : List X) (d : List A) → Many P a ys d → (zs : List X) × (xs ≡ ys ++ zs) × Many P d zs rest
