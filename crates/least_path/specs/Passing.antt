-- Nodes that a search passes over, since one edge alone leads on from each.
use Rattle.std.specs.Prelude.{◌≡◌, ◌≤◌, ℕ, zero, suc, ◌+◌, List, [], ◌++◌}
use Rattle.weighted_relations.specs.Searches.{Edges, Entries, Under}

-- the edge is the only one from there
pub record IsOnly {A : Type 0} (E : Edges A) (n o : A) (u : ℕ) (z : List ℕ) : Type 0 where
  pub edge : E n o u z
  pub alone : (p : A) (v : ℕ) (x : List ℕ) → E n p v x → (p ≡ o) × (v ≡ u) × (x ≡ z)

-- so many edges, one after another, each the only one from where it begins
pub data Passed {A : Type 0} (E : Edges A) : ℕ → A → A → ℕ → List ℕ → Type 0 where
  none : {n : A} → Passed E zero n n 0 []
  then : {k : ℕ} {n p o : A} {u w : ℕ} {z y : List ℕ} → IsOnly E n p u z → Passed E k p o w y → Passed E (suc k) n o (u + w) (z ++ y)

-- how many are passed over at a time, at most
abbrev pub most_passed : ℕ
most_passed = 4096

abbrev pub Passes : {A : Type 0} → Edges A → Edges A
Passes {A} E n o u z = (k : ℕ) × (k ≤ most_passed) × Passed E k n o u z

-- nothing is passed over
abbrev pub Stays : {A : Type 0} → Edges A
Stays {A} n o u z = (o ≡ n) × (u ≡ 0) × (z ≡ [])

-- where one comes from the node, over others or at once, some entry is no greater
pub record UnderOn {A : Type 0} (On : Edges A) (F : Entries A) (n : A) (w : ℕ) (y : List ℕ) : Type 0 where
  pub node : A
  pub more : ℕ
  pub text : List ℕ
  pub on : On n node more text
  pub under : Under F node (w + more) (y ++ text)

-- an edge, and on from where it leads
pub record LedOn {A : Type 0} (On : Edges A) (D : A → ℕ → List ℕ → Type 0) (n : A) (u : ℕ) (z : List ℕ) : Type 0 where
  pub first : A
  pub weight : ℕ
  pub output : List ℕ
  pub edge : D first weight output
  pub more : ℕ
  pub text : List ℕ
  pub on : On first n more text
  pub whole : u ≡ weight + more
  pub written : z ≡ output ++ text
