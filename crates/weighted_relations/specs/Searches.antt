-- A search by least cost over any nodes and edges, and what it answers.
use Rattle.std.specs.Prelude.{◌⊎◌, ℕ, ◌+◌, List, [], ◌++◌}
use Rattle.weighted_relations.specs.Least.{Below}

-- entries: a node, a weight and an output
abbrev pub Entries : Type 0 → Type 1
Entries A = A → ℕ → List ℕ → Type 0

-- edges: from, to, a weight and an output
abbrev pub Edges : Type 0 → Type 1
Edges A = A → A → ℕ → List ℕ → Type 0

-- a way from s to a node, at this weight and with this output
pub data Reach {A : Type 0} (E : Edges A) (s : A) : A → ℕ → List ℕ → Type 0 where
  here : Reach E s s 0 []
  on : {n m : A} {w u : ℕ} {y z : List ℕ} → Reach E s n w y → E n m u z → Reach E s m (w + u) (y ++ z)

-- some entry for this node is no greater
pub record Under {A : Type 0} (F : Entries A) (n : A) (w : ℕ) (y : List ℕ) : Type 0 where
  pub weight : ℕ
  pub output : List ℕ
  pub entry : F n weight output
  pub below : Below weight output w y

-- some entry for any node is no greater
pub record UnderAny {A : Type 0} (F : Entries A) (w : ℕ) (y : List ℕ) : Type 0 where
  pub node : A
  pub under : Under F node w y

-- What the search keeps. Settled entries are done, and open ones wait.
pub record Kept {A : Type 0} (E : Edges A) (s : A) (done waiting : Entries A) : Type 0 where
  pub start : Under done s 0 [] ⊎ Under waiting s 0 []
  pub edges : (n m : A) (w u : ℕ) (y z : List ℕ) → done n w y → E n m u z → Under done m (w + u) (y ++ z) ⊎ Under waiting m (w + u) (y ++ z)
  pub true_done : (n : A) (w : ℕ) (y : List ℕ) → done n w y → Reach E s n w y
  pub true_waiting : (n : A) (w : ℕ) (y : List ℕ) → waiting n w y → Reach E s n w y
