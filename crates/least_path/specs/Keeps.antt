-- What a search keeps.
use Rattle.std.specs.Prelude.{◌≡◌, ◌≢◌, ◌⊎◌, ◌↔◌, ◌<◌, ℕ, ◌+◌, List, ◌∷◌, ◌++◌, Some, slice_get, slice_index_or, length, map, set, All, Contains}
use Rattle.std.specs.List.Sorted.{IsPermutation}
use Rattle.weighted_relations.specs.SearchRuns.{Open, Waits, IsFirst}
use Rattle.weighted_relations.specs.Searches.{Under}
use Rattle.state_tuples.specs.declared.tuples.Tuple.{Tuple}
use Rattle.state_tuples.specs.Cascades.{Cascaded, IsOf}
use Rattle.least_path.specs.declared.node.Node.{Node}
use Rattle.least_path.specs.declared.node.Node.TheVariants.{End}
use Rattle.least_path.specs.declared.queue.Entry.{Entry}
use Rattle.least_path.specs.declared.standings.Standing.TheVariants.{Met, Settled}
use Rattle.least_path.specs.declared.reaching.Search.{Search}
use Rattle.least_path.specs.Texts.{text_of, Grows}
use Rattle.least_path.specs.Waiting.{Fits, IsHeap}
use Rattle.state_table.specs.Numbers.{Distinct}
use Rattle.least_path.specs.Standings.{standing_of, settled_count}

-- an entry as the laws of searches see it
abbrev pub open_of : List Node → List (List ℕ) → Entry → Open Node
open_of keys all e = record { node = slice_index_or keys e.node End; weight = e.weight; output = text_of all e.output }

abbrev pub waits : Search → List (Open Node)
waits s = map (open_of s.nodes s.outputs) s.queue.items

abbrev pub IsSettled : Search → Node → Type 0
IsSettled s n = (k : ℕ) × (slice_get s.nodes k ≡ Some n) × (standing_of s.standings.items k ≡ Settled)

pub record Kept (s : Search) : Type 0 where
  pub apart : Distinct s.nodes
  pub even : length s.standings.items ≡ length s.nodes
  pub places : All (λ e. e.node < length s.nodes) s.queue.items
  pub fits : All (Fits s.outputs) s.queue.items
  pub heap : IsHeap s.outputs s.queue.items
  pub best : (k : ℕ) (b : Entry) → standing_of s.standings.items k ≡ Met b → (b.node ≡ k) × Contains s.queue.items b

-- one edge
abbrev pub IsEdge : Node → ℕ → List ℕ → Node → ℕ → List ℕ → Type 0
IsEdge n u z m v x = (m ≡ n) × (v ≡ u) × (x ≡ z)

-- From an entry of weight w and output y each of the edges D leads to what is settled, or waits at no greater cost, and nothing else comes to wait.
pub record Grown (old new : Search) (w : ℕ) (y : List ℕ) (D : Node → ℕ → List ℕ → Type 0) : Type 0 where
  pub kept : Kept new
  pub texts : Grows old.outputs new.outputs
  pub settled : (n : Node) → IsSettled new n ↔ IsSettled old n
  pub count : settled_count new.standings.items ≡ settled_count old.standings.items
  pub nodes : (k : ℕ) (n : Node) → slice_get old.nodes k ≡ Some n → slice_get new.nodes k ≡ Some n
  pub new_nodes : (k : ℕ) (n : Node) → slice_get new.nodes k ≡ Some n → (slice_get old.nodes k ≡ Some n) ⊎ ((u : ℕ) × (z : List ℕ) × D n u z)
  pub stays : (d : Open Node) → Contains (waits old) d → Contains (waits new) d
  pub covered : (n : Node) (u : ℕ) (z : List ℕ) → D n u z → IsSettled new n ⊎ Under (Waits (waits new)) n (w + u) (y ++ z)
  pub sound : (d : Open Node) → Contains (waits new) d → Contains (waits old) d ⊎ ((u : ℕ) × (z : List ℕ) × D d.node u z × (d.weight ≡ w + u) × (d.output ≡ y ++ z))

-- From an entry at the tuple of whichever cascade it is.
abbrev pub GrownFrom : List Cascaded → Tuple → Search → Search → Entry → (Cascaded → Node → ℕ → List ℕ → Type 0) → Type 0
GrownFrom cascades t old new from D = (c : Cascaded) → Contains cascades c → IsOf c t → Grown old new from.weight (text_of old.outputs from.output) (D c)

-- settled entries are gone, and these are left
pub record Left (old : Search) (rest : List (Open Node)) : Type 0 where
  pub gone : List (Open Node)
  pub settled : (d : Open Node) → Contains gone d → IsSettled old d.node
  pub moves : IsPermutation (waits old) (gone ++ rest)

-- The first entry whose node is not settled is taken out, and this is settled.
pub record IsTaken (old new : Search) (e : Entry) : Type 0 where
  pub kept : Kept new
  pub nodes : new.nodes ≡ old.nodes
  pub standings : new.standings.items ≡ set old.standings.items e.node Settled
  pub outputs : new.outputs ≡ old.outputs
  pub fits : Fits old.outputs e
  pub place : e.node < length old.nodes
  pub fresh : standing_of old.standings.items e.node ≢ Settled
  pub left : Left old (open_of old.nodes old.outputs e ∷ waits new)
  pub first : IsFirst (open_of old.nodes old.outputs e) (open_of old.nodes old.outputs e ∷ waits new)
