-- What the numbers of a source stand for.
use Rattle.std.specs.Prelude.{◌≡◌, ◌<◌, ◌≤◌, Bool, ℕ, List, ◌∷◌, All, Some, slice_get, length, drop}
use Rattle.weighted_relations.specs.Graphs.{Graph}
use Rattle.weighted_relations.specs.declared.Arc.{Arc}
use Rattle.state_table.specs.Numbers.{Keeps}
use Rattle.field_orders.specs.Remainders.{Written, Rest, nothing, byte, fields, bytes_then, fields_then, field_at, arc_count, arc_at, chosen, writing, AreWritten}
use Rattle.field_orders.specs.declared.states.State.{State}
use Rattle.field_orders.specs.declared.states.State.TheVariants.{End, Byte, Text, Fields}

-- Some of the states stand in a second list, and the number of each, among all of them, in a third.
pub record AreMet (all met : List State) (numbers : List ℕ) : Type 0 where
  pub few : length numbers ≤ length met
  pub each : (i n : ℕ) (s : State) → slice_get numbers i ≡ Some n → slice_get met i ≡ Some s → slice_get all n ≡ Some s

-- the state of a number stands for what is left to write
pub data Means (t : List Written) (s : List State) : ℕ → Rest → Type 0 where
  at_end : {k : ℕ} → slice_get s k ≡ Some End → Means t s k nothing
  at_byte : {k b n : ℕ} {r : Rest} → slice_get s k ≡ Some (Byte b n) → Means t s n r → Means t s k (byte b r)
  at_text : {k p i n : ℕ} {r : Rest} → slice_get s k ≡ Some (Text p i n) → p < length t → i < length (field_at t p).text → Means t s n r → Means t s k (bytes_then (drop i (field_at t p).text) r)
  at_fields : {k j n : ℕ} {ks : List ℕ} {r : Rest} → slice_get s k ≡ Some (Fields (j ∷ ks) n) → All (λ i. i < length t) (j ∷ ks) → Means t s n r → Means t s k (fields (j ∷ ks) r)

-- each state stands for something
abbrev pub AllMean : List Written → List State → Type 0
AllMean t s = (k : ℕ) → k < length s → (r : Rest) × Means t s k r

-- A table of states that grew: what was there is there, and each state stands for something if each did.
pub record Grew (t : List Written) (old new : List State) : Type 0 where
  pub keeps : Keeps old new
  pub meant : AllMean t old → AllMean t new

-- The state k is what f puts before that of the number n.
pub record Makes (t : List Written) (old new : List State) (n k : ℕ) (f : Rest → Rest) : Type 0 where
  pub grew : Grew t old new
  pub within : k < length new
  pub means : (r : Rest) → Means t old n r → Means t new k (f r)

-- an arc of a source is one of what is left to write
pub record ArcSays (t : List Written) (s : List State) (a : Arc) (c : ℕ × Rest) : Type 0 where
  pub input : a.input ≡ c.0
  pub output : a.output ≡ c.0
  pub weight : a.weight ≡ 0
  pub small : a.input ≤ 255
  pub next : Means t s a.next c.1

-- the arcs of a state are those of what is left to write
pub record RowSays (t : List Written) (keep : Bool) (s : List State) (row : List Arc) (r : Rest) : Type 0 where
  pub count : length row ≡ arc_count keep r
  pub each : (k : ℕ) (a : Arc) → slice_get row k ≡ Some a → ArcSays t s a (arc_at t r k)

-- the first arcs of a state where fields are left
pub record RowTo (t : List Written) (old new : List State) (left : List ℕ) (n i : ℕ) (row : List Arc) : Type 0 where
  pub grew : Grew t old new
  pub count : length row ≡ i
  pub each : (r : Rest) → Means t old n r → (k : ℕ) (a : Arc) → slice_get row k ≡ Some a → ArcSays t new a (chosen t left r k)

-- A record's fields, whether they keep their order, the states so far, the first of them, and the number of what stands for the
-- record itself: its text is the class and '|', and its inner fields are the record's.
pub record Source : Type 0 where
  pub table : List Written
  pub keep : Bool
  pub states : List State
  pub start : ℕ
  pub root : ℕ

-- the whole text
abbrev pub whole : Source → Rest
whole s = bytes_then (field_at s.table s.root).text (fields_then (field_at s.table s.root).inner nothing)

-- The graph that a source shows. Its nodes are what is left to write.
abbrev pub graph_of : Source → Graph Rest (ℕ × Rest)
graph_of s = writing s.table s.keep (whole s)

-- the state of a number stands for a node
abbrev pub IsState : Source → ℕ → Rest → Type 0
IsState s k r = Means s.table s.states k r

-- each field of the table can be written, each state stands for a node, and the first one for the start
pub record IsSource (s : Source) : Type 0 where
  pub written : AreWritten s.table
  pub meant : AllMean s.table s.states
  pub first : IsState s s.start (whole s)

-- the same source with more states, and those that it had keep their numbers
pub record IsMore (old new : Source) : Type 0 where
  pub is : new ≡ record { table = old.table; keep = old.keep; states = new.states; start = old.start; root = old.root }
  pub keeps : Keeps old.states new.states

-- the arcs of a state are those of its node, in their order
abbrev pub HasArcs : Source → Source → ℕ → List Arc → Type 0
HasArcs old new k row = (r : Rest) → IsState old k r → RowSays new.table new.keep new.states row r
