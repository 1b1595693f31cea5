-- Context rewrites whose input may be empty, once at each place between what was written and what is unread.
-- `Rewritten` of weighted_relations is the case of a tau that reads no empty input (proofs/Gapless.antt).
use Rattle.std.specs.Prelude.{◌≡◌, ℕ, ◌+◌, List, [], ◌∷◌, ◌++◌}
use Rattle.weighted_relations.specs.Relations.{Relation, Accepts, IsInput}
use Rattle.weighted_relations.specs.Rewriting.{Manner, obligatory, optional, EndsIn, StartsWith}
use Rattle.rewrite_rules.specs.declared.spots.Gap.{Gap}
use Rattle.rewrite_rules.specs.declared.spots.Gap.TheVariants.{Open, Shut}

-- a rewrite that reads nothing needs an open gap
abbrev pub HasRoom : Gap → List ℕ → Type 0
HasRoom Open u = Unit {0}
HasRoom Shut [] = ⊥
HasRoom Shut (c ∷ u) = Unit {0}

-- the gap after a rewrite
abbrev pub gap_after : List ℕ → Gap
gap_after [] = Shut
gap_after (c ∷ u) = Open

-- a rewrite begins with u and t, where o was written and r is unread
pub record Begins (tau left right : Relation) (o r : List ℕ) (g : Gap) (u t : List ℕ) : Type 0 where
  pub parts : r ≡ u ++ t
  pub input : IsInput tau u
  pub room : HasRoom g u
  pub ends : EndsIn left (256 ∷ o)
  pub starts : StartsWith right (t ++ 257 ∷ [])

-- whether no rewrite has to begin
abbrev pub NoneBegins : (tau left right : Relation) → Manner → List ℕ → List ℕ → Gap → Type 0
NoneBegins tau left right optional o r g = Unit {0}
NoneBegins tau left right obligatory o r g = (u t : List ℕ) → Begins tau left right o r g u t → ⊥

-- from the written text and the unread text, with the gap, the final output can be this at this weight
pub data Goes (tau left right : Relation) (manner : Manner) : List ℕ → List ℕ → Gap → List ℕ → ℕ → Type 0 where
  ends_here : {o : List ℕ} {g : Gap} → NoneBegins tau left right manner o [] g → Goes tau left right manner o [] g o 0
  copies : {o r : List ℕ} {c : ℕ} {g : Gap} {y : List ℕ} {w : ℕ} → NoneBegins tau left right manner o (c ∷ r) g → Goes tau left right manner (o ++ c ∷ []) r Open y w → Goes tau left right manner o (c ∷ r) g y w
  rewrites : {o r : List ℕ} {g : Gap} {u t v y : List ℕ} {w1 w2 : ℕ} → Begins tau left right o r g u t → tau u v w1 → Goes tau left right manner (o ++ v) t (gap_after u) y w2 → Goes tau left right manner o r g y (w1 + w2)

-- the readings of a rewrite
pub record GoesWhole (tau left right sigma : Relation) (manner : Manner) (x y : List ℕ) (w : ℕ) : Type 0 where
  pub within : Accepts sigma x
  pub goes : Goes tau left right manner [] x Open y w
