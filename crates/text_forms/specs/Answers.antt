-- What a reader answers that finds one thing at the front of a list, or finds that there is none.
use Rattle.std.specs.Prelude.{◌≡◌, Option, Some, None, Result, Ok, Err}

-- P holds of this value and this rest, and of no other
pub record Takes {T R : Type 0} (P : T → R → Type 0) (t : T) (rest : R) : Type 0 where
  pub found : P t rest
  pub only : (u : T) (d : R) → P u d → (u ≡ t) × (d ≡ rest)

-- the one that there is, or none where there is none
abbrev pub Next : {X T R : Type 0} → (X → T) → (X → R) → (T → R → Type 0) → Option X → Type 0
Next value rest P (Some x) = Takes P (value x) (rest x)
Next {X} {T} {R} value rest P None = (u : T) (d : R) → P u d → ⊥
