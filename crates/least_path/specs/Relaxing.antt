-- What a search by lists keeps.
use Rattle.std.specs.Prelude.{◌≡◌, ◌⊎◌, ◌<◌, ℕ, ◌+◌, List, [], ◌∷◌, ◌++◌, Some, slice_get, length, All, Contains}
use Rattle.weighted_relations.specs.Machines.{Machine}
use Rattle.weighted_relations.specs.Searches.{Edges, Entries, Under}
use Rattle.state_tuples.specs.declared.tuples.Tuple.{Tuple}
use Rattle.state_tuples.specs.Cascades.{Cascaded, IsOf}
use Rattle.least_path.specs.declared.node.Node.{Node}
use Rattle.least_path.specs.declared.queue.Entry.{Entry}
use Rattle.least_path.specs.declared.marks.Mark.{Mark}
use Rattle.least_path.specs.declared.marks.Mark.TheVariants.{Waiting, Done}
use Rattle.least_path.specs.declared.relaxing.Relaxed.{Relaxed}
use Rattle.least_path.specs.Texts.{text_of, Grows}
use Rattle.least_path.specs.Waiting.{Fits}
use Rattle.least_path.specs.Notes.{HasOneEnd}
use Rattle.least_path.specs.Ending.{CanEnd}
use Rattle.least_path.specs.Growths.{Steps}
use Rattle.least_path.specs.Passing.{LedOn, Passes, UnderOn}
use Rattle.least_path.specs.Marks.{mark_of, best_of}

-- a node with a way that its mark has
pub record Marked (has : Mark → Entry → Type 0) (s : Relaxed) (n : Node) (w : ℕ) (y : List ℕ) : Type 0 where
  pub number : ℕ
  pub way : Entry
  pub node : slice_get s.nodes number ≡ Some n
  pub mark : has (mark_of s.marks.items number) way
  pub weight : way.weight ≡ w
  pub output : text_of s.outputs way.output ≡ y

-- nodes that were met, at their best ways so far; those of them whose moves were followed; and those that wait
abbrev pub IsMet : Relaxed → Entries Node
IsMet s = Marked (λ m b. best_of m ≡ Some b) s

abbrev pub IsDone : Relaxed → Entries Node
IsDone s = Marked (λ m b. m ≡ Done b) s

abbrev pub Waits : Relaxed → Entries Node
Waits s = Marked (λ m b. m ≡ Waiting b) s

pub record Kept (s : Relaxed) : Type 0 where
  pub one_end : HasOneEnd s.nodes
  pub even : length s.marks.items ≡ length s.nodes
  pub fits : (k : ℕ) (b : Entry) → best_of (mark_of s.marks.items k) ≡ Some b → Fits s.outputs b
  pub places : All (λ k. k < length s.nodes) s.lists

-- From a way of weight w and output y each of the edges D leads to a node that was met at no greater cost, if the node counts; or such a node
-- was met after others, over which the search passes on. What has come to wait is on a list.
pub record Gained (On : Edges Node) (counts : Node → Type 0) (old new : Relaxed) (w : ℕ) (y : List ℕ) (D : Node → ℕ → List ℕ → Type 0) : Type 0 where
  pub kept : Kept new
  pub texts : Grows old.outputs new.outputs
  pub nodes : (k : ℕ) (n : Node) → slice_get old.nodes k ≡ Some n → slice_get new.nodes k ≡ Some n
  pub new_nodes : (k : ℕ) (n : Node) → slice_get new.nodes k ≡ Some n → (slice_get old.nodes k ≡ Some n) ⊎ ((u : ℕ) × (z : List ℕ) × LedOn On D n u z)
  pub done : (n : Node) (v : ℕ) (x : List ℕ) → IsDone new n v x → IsDone old n v x
  pub stays : (n : Node) (v : ℕ) (x : List ℕ) → IsMet old n v x → Under (IsMet new) n v x
  pub covered : (n : Node) (u : ℕ) (z : List ℕ) → D n u z → counts n → UnderOn On (IsMet new) n (w + u) (y ++ z)
  pub sound : (n : Node) (v : ℕ) (x : List ℕ) → IsMet new n v x → IsMet old n v x ⊎ ((u : ℕ) × (z : List ℕ) × LedOn On D n u z × (v ≡ w + u) × (x ≡ y ++ z))
  pub listed : (k : ℕ) (b : Entry) → mark_of new.marks.items k ≡ Waiting b → Contains new.lists k ⊎ ((d : Entry) × (mark_of old.marks.items k ≡ Waiting d))
  pub queued : (k : ℕ) → Contains old.lists k → Contains new.lists k

-- From a way at the tuple of whichever cascade it is. Nodes that lead to the end count, and those from which one edge alone leads on are passed.
abbrev pub GainedFrom : Machine → List Cascaded → Tuple → Relaxed → Relaxed → Entry → (Cascaded → Node → ℕ → List ℕ → Type 0) → Type 0
GainedFrom m cascades t old new from D = (c : Cascaded) → Contains cascades c → IsOf c t → Gained (Passes (Steps m c)) (CanEnd m c) old new from.weight (text_of old.outputs from.output) (D c)

-- the best way to a node
pub record IsBest (s : Relaxed) (n : Node) (b : Entry) : Type 0 where
  pub met : IsMet s n b.weight (text_of s.outputs b.output)
  pub fits : Fits s.outputs b

-- nothing is met
pub record IsEmpty (s : Relaxed) : Type 0 where
  pub nodes : s.nodes ≡ []
  pub marks : s.marks.items ≡ []
  pub outputs : s.outputs ≡ [] ∷ []
  pub lists : s.lists ≡ []
