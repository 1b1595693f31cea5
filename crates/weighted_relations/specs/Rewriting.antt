-- Context rewrites, left to right, as a relation on whole strings.
use Rattle.std.specs.Prelude.{◌≡◌, ℕ, ◌+◌, List, [], ◌∷◌, ◌++◌}
use Rattle.weighted_relations.specs.Relations.{Relation, Accepts, IsInput}

-- whether a rewrite that begins has to be made
pub data Manner : Type 0 where
  obligatory : Manner
  optional : Manner

-- some suffix is accepted
pub record EndsIn (R : Relation) (z : List ℕ) : Type 0 where
  pub front : List ℕ
  pub back : List ℕ
  pub parts : z ≡ front ++ back
  pub accepted : Accepts R back

-- some prefix is accepted
pub record StartsWith (R : Relation) (z : List ℕ) : Type 0 where
  pub front : List ℕ
  pub back : List ℕ
  pub parts : z ≡ front ++ back
  pub accepted : Accepts R front

-- A rewrite of the first label and those after it begins, where o was written and r is unread: what it
-- reads is followed by t. The marks of the beginning and the end stand before o and after t.
pub record Begins (tau left right : Relation) (o r : List ℕ) (c : ℕ) (u t : List ℕ) : Type 0 where
  pub parts : r ≡ (c ∷ u) ++ t
  pub input : IsInput tau (c ∷ u)
  pub ends : EndsIn left (256 ∷ o)
  pub starts : StartsWith right (t ++ 257 ∷ [])

-- whether what is next may be copied
abbrev pub MayCopy : (tau left right : Relation) → Manner → List ℕ → List ℕ → Type 0
MayCopy tau left right optional o r = Unit {0}
MayCopy tau left right obligatory o r = (c : ℕ) (u t : List ℕ) → Begins tau left right o r c u t → ⊥

-- From the written text and the unread text the final output can be this, at this weight.
pub data Rewrites (tau left right : Relation) (manner : Manner) : List ℕ → List ℕ → List ℕ → ℕ → Type 0 where
  stop_here : {o : List ℕ} → Rewrites tau left right manner o [] o 0
  copy : {o r y : List ℕ} {c w : ℕ} → MayCopy tau left right manner o (c ∷ r) → Rewrites tau left right manner (o ++ c ∷ []) r y w → Rewrites tau left right manner o (c ∷ r) y w
  rewrite : {o r u t v y : List ℕ} {c w1 w2 : ℕ} → Begins tau left right o r c u t → tau (c ∷ u) v w1 → Rewrites tau left right manner (o ++ v) t y w2 → Rewrites tau left right manner o r y (w1 + w2)

-- the readings of a rewrite
pub record Rewritten (tau left right sigma : Relation) (manner : Manner) (x y : List ℕ) (w : ℕ) : Type 0 where
  pub within : Accepts sigma x
  pub rewrites : Rewrites tau left right manner [] x y w
