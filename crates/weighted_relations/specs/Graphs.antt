-- Graphs with labelled arcs, their paths, and the readings of these.
use Rattle.std.specs.Prelude.{◌≡◌, ℕ, zero, suc, ◌+◌, List, [], ◌∷◌, Option, Some, slice_get}
use Rattle.weighted_relations.specs.Relations.{Relation}

-- Where it starts, each node's arcs in order, each node's final weight, and what an arc says.
-- The nodes are the states of a transducer, or composed states.
pub record Graph (A B : Type 0) : Type 0 where
  pub start : A
  pub arcs : A → List B
  pub final : A → Option ℕ
  pub input : B → ℕ
  pub output : B → ℕ
  pub weight : B → ℕ
  pub next : A → B → A

-- a label before a list of labels; the empty label, 0, adds nothing
abbrev pub label : ℕ → List ℕ → List ℕ
label zero x = x
label (suc n) x = suc n ∷ x

-- A path from a node to a final one: the places of its arcs in their lists, and its reading.
pub data GraphPath {A B : Type 0} (g : Graph A B) : A → List ℕ → List ℕ → List ℕ → ℕ → Type 0 where
  stop : {s : A} {w : ℕ} → g.final s ≡ Some w → GraphPath g s [] [] [] w
  step : {s : A} {k : ℕ} {ks : List ℕ} {a : B} {x y : List ℕ} {w : ℕ} → slice_get (g.arcs s) k ≡ Some a → GraphPath g (g.next s a) ks x y w → GraphPath g s (k ∷ ks) (label (g.input a) x) (label (g.output a) y) (g.weight a + w)

-- the readings of the paths from a node
abbrev pub GraphFrom : {A B : Type 0} → Graph A B → A → Relation
GraphFrom g s x y w = (ks : List ℕ) × GraphPath g s ks x y w

-- the readings of the paths from the start
abbrev pub GraphReads : {A B : Type 0} → Graph A B → Relation
GraphReads g = GraphFrom g g.start
