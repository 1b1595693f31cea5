-- The texts that the automata of a rewrite accept.
use Rattle.std.specs.Prelude.{◌≡◌, ◌↔◌, ℕ, List, [], ◌∷◌, ◌++◌, All, IsTrue, reverse}
use Rattle.weighted_relations.specs.Relations.{Relation, IsLabel, IsInput, Is, Either, IsAcceptor, IsUnmarked}
use Rattle.acceptor_ops.specs.Tables.{Accepts, step_of}
use Rattle.rewrite_rules.specs.declared.automata.Automata.{Automata}

-- the readings whose input isn't empty
pub record Heads (R : Relation) (x y : List ℕ) (w : ℕ) : Type 0 where
  pub reads : R x y w
  pub some : x ≡ [] → ⊥

-- what may stand before the right context: what a rewrite reads, or the mark of the beginning in its place
abbrev pub Fronts : Relation → Relation
Fronts T = Either (Heads T) (Is (256 ∷ []))

-- a text that ends in the left context
pub record LeftText (L : Relation) (x : List ℕ) : Type 0 where
  pub front : List ℕ
  pub back : List ℕ
  pub parts : x ≡ front ++ back
  pub labels : All IsLabel front
  pub ends : IsInput L back

-- a front, and then what starts with the right context
pub record BackText (T R : Relation) (x : List ℕ) : Type 0 where
  pub front : List ℕ
  pub middle : List ℕ
  pub rest : List ℕ
  pub parts : x ≡ front ++ (middle ++ rest)
  pub begins : IsInput (Fronts T) front
  pub starts : IsInput R middle
  pub labels : All IsLabel rest

-- what the automata accept, and where they begin
pub record Speaks (T L R S : Relation) (t : Automata) : Type 0 where
  pub sigma : (x : List ℕ) → Accepts t.sigma x ↔ IsInput S x
  pub left : (x : List ℕ) → Accepts t.left x ↔ LeftText L x
  pub back : (x : List ℕ) → Accepts t.back (reverse x) ↔ BackText T R x
  pub left_start : t.left_start ≡ step_of t.left t.left.start 256
  pub back_start : t.back_start ≡ step_of t.back t.back.start 257
  pub inserts : IsTrue t.inserts ↔ IsInput T []

-- what is asked of the parts of a rewrite
pub record Conditions (T L R S : Relation) : Type 0 where
  pub left : IsAcceptor L
  pub right : IsAcceptor R
  pub sigma : IsAcceptor S
  pub sigma_unmarked : IsUnmarked S
  pub tau_unmarked : IsUnmarked T
