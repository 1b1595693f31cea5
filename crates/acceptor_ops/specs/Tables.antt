-- Total deterministic automata as contracts see them.
use Rattle.std.specs.Prelude.{◌≡◌, ◌<◌, ℕ, List, [], ◌∷◌, length, get_or, Bool, true, false, All}
use Rattle.weighted_relations.specs.Relations.{Relation, IsLabel}

-- where it starts, each label's class, each state's next state at each class, and which states accept
pub record Table : Type 0 where
  pub start : ℕ
  pub classes : List ℕ
  pub next : List (List ℕ)
  pub accepting : List Bool

-- the class of a label
abbrev pub class_of : List ℕ → ℕ → ℕ
class_of classes label = get_or classes label 0

-- the next state at a label
abbrev pub step_of : Table → ℕ → ℕ → ℕ
step_of t s label = get_or (get_or t.next s []) (class_of t.classes label) 0

-- the state after these labels
abbrev pub run_from : Table → ℕ → List ℕ → ℕ
run_from t s [] = s
run_from t s (label ∷ rest) = run_from t (step_of t s label) rest

-- a string of labels after which the state accepts
pub record Accepts (t : Table) (x : List ℕ) : Type 0 where
  pub labels : All IsLabel x
  pub accepted : get_or t.accepting (run_from t t.start x) false ≡ true

-- all other strings of labels
pub record Others (P : List ℕ → Type 0) (x : List ℕ) : Type 0 where
  pub labels : All IsLabel x
  pub other : P x → ⊥

-- the readings of which no input is one of P
pub record Except (R : Relation) (P : List ℕ → Type 0) (x y : List ℕ) (w : ℕ) : Type 0 where
  pub reads : R x y w
  pub other : P x → ⊥

-- what holds of each automaton: at each state each label leads to a state
pub record IsTotal (t : Table) : Type 0 where
  pub count : length t.accepting ≡ length t.next
  pub start : t.start < length t.next
  pub classes : length t.classes ≡ 258
  pub within : (s l : ℕ) → s < length t.next → IsLabel l → class_of t.classes l < length (get_or t.next s [])
  pub steps : (s l : ℕ) → s < length t.next → IsLabel l → step_of t s l < length t.next
