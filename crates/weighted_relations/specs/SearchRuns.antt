-- What a search keeps between its steps: the nodes that are settled, and the entries that are open.
use Rattle.std.specs.Prelude.{ℕ, List, All, Contains}
use Rattle.weighted_relations.specs.Least.{Below}
use Rattle.weighted_relations.specs.Searches.{Entries, Edges, Reach, Kept}

-- a node with what a way to it costs and writes
pub record Open (A : Type 0) : Type 0 where
  pub node : A
  pub weight : ℕ
  pub output : List ℕ

-- a way to n, and none is below it
pub record LeastWay {A : Type 0} (E : Edges A) (s n : A) (w : ℕ) (y : List ℕ) : Type 0 where
  pub way : Reach E s n w y
  pub least : (v : ℕ) (x : List ℕ) → Reach E s n v x → Below w y v x

-- a settled node at its least way
pub record Done {A : Type 0} (E : Edges A) (s : A) (S : A → Type 0) (n : A) (w : ℕ) (y : List ℕ) : Type 0 where
  pub settled : S n
  pub least : LeastWay E s n w y

-- an entry of a list
abbrev pub Waits : {A : Type 0} → List (Open A) → Entries A
Waits queue n w y = Contains queue (record { node = n; weight = w; output = y })

-- Settled nodes are at their least ways, and what waits is as a search keeps it.
pub record Going {A : Type 0} (E : Edges A) (s : A) (S : A → Type 0) (queue : List (Open A)) : Type 0 where
  pub kept : Kept E s (Done E s S) (Waits queue)
  pub ways : (n : A) → S n → (w : ℕ) × (y : List ℕ) × LeastWay E s n w y

-- no entry is below e
abbrev pub IsFirst : {A : Type 0} → Open A → List (Open A) → Type 0
IsFirst {A} e queue = All (λ (d : Open A). Below e.weight e.output d.weight d.output) queue
