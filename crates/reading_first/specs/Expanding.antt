-- The ways from a state while they are followed, and the moves that were found.
use Rattle.std.specs.Prelude.{◌≡◌, ◌⊎◌, ◌<◌, ◌≤◌, ◌^◌, ℕ, ◌+◌, List, [], ◌∷◌, ◌++◌, Some, length, slice_get}
use Rattle.std.specs.List.{Contains}
use Rattle.weighted_relations.specs.declared.Arc.{Arc}
use Rattle.weighted_relations.specs.Graphs.{label}
use Rattle.weighted_relations.specs.Machines.{Machine, IsArc, final_of}
use Rattle.reading_first.specs.declared.parts.Part.{Part}
use Rattle.reading_first.specs.declared.parts.Part.TheVariants.{At, Ended}
use Rattle.reading_first.specs.declared.expands.Way.{Way}
use Rattle.reading_first.specs.Ways.{Silent}
use Rattle.reading_first.specs.Shapes.{Before, IsMove, Has, Fit, IsSmall}

-- the text of a way in a list of them
pub data TextOf (ways : List Way) : ℕ → List ℕ → Type 0 where
  nothing : TextOf ways 0 []
  more : {k : ℕ} {u : List ℕ} {w : Way} → 0 < k → slice_get ways k ≡ Some w → TextOf ways w.before u → TextOf ways k (u ++ label w.written [])

-- each way stands behind the one that it makes longer, and its label is one
pub record Backwards (ways : List Way) : Type 0 where
  pub before : (k : ℕ) (w : Way) → 0 < k → slice_get ways k ≡ Some w → w.before < k
  pub labels : (k : ℕ) (w : Way) → slice_get ways k ≡ Some w → w.written ≤ 257

-- a label, and then from a part on the rest of a text
pub record Written (parts : List Part) (first next : ℕ) (text : List ℕ) (p : Part) : Type 0 where
  pub rest : List ℕ
  pub is : label first rest ≡ text
  pub leads : Before parts next rest p

-- a state, the ways from it so far, and arcs for the moves that were found
pub record Growing : Type 0 where
  pub from : ℕ
  pub ways : List Way
  pub row : List Arc

-- the way of no arcs
abbrev pub standing : ℕ → Way
standing q = record { state = q; weight = 0; written = 0; before = 0 }

-- a way of the list is one from q
pub record IsWay (m : Machine) (q : ℕ) (ways : List Way) (k : ℕ) (w : Way) : Type 0 where
  pub places : List ℕ
  pub text : List ℕ
  pub is : Silent m q places text w.weight w.state
  pub told : TextOf ways k text
  pub some : 0 < k → (j : ℕ) × (js : List ℕ) × (places ≡ j ∷ js)
  pub within : w.state < length m.arcs
  pub light : w.weight < 2 ^ 54

-- the way k with one arc more is in the list
pub record IsListed (ways : List Way) (k : ℕ) (w : Way) (a : Arc) : Type 0 where
  pub place : ℕ
  pub way : Way
  pub is : slice_get ways place ≡ Some way
  pub some : 0 < place
  pub before : way.before ≡ k
  pub written : way.written ≡ a.output
  pub weight : way.weight ≡ w.weight + a.weight
  pub state : way.state ≡ a.next

-- a move by the way k was found
pub record IsFound (e : Growing) (parts : List Part) (k input last weight : ℕ) (p : Part) : Type 0 where
  pub text : List ℕ
  pub told : TextOf e.ways k text
  pub has : Has parts e.row input (text ++ label last []) weight p

-- behind the way k, an arc is followed
pub record IsFollowed (e : Growing) (parts : List Part) (k : ℕ) (w : Way) (a : Arc) : Type 0 where
  pub silent : a.input ≡ 0 → IsListed e.ways k w a
  pub reads : (a.input ≡ 0 → ⊥) → IsFound e parts k a.input a.output (w.weight + a.weight) (At a.next)

-- an arc of the first ways, or one of the first arcs of the next
abbrev pub IsDone : ℕ → ℕ → ℕ → ℕ → Type 0
IsDone done j k i = (k < done) ⊎ ((k ≡ done) × (i < j))

-- the ways from a state, of which the first ones are followed, and the first arcs of the next; the moves that were found
pub record Expanding (m : Machine) (e : Growing) (parts : List Part) (done j : ℕ) : Type 0 where
  pub first : slice_get e.ways 0 ≡ Some (standing e.from)
  pub are : (k : ℕ) (w : Way) → slice_get e.ways k ≡ Some w → IsWay m e.from e.ways k w
  pub backwards : Backwards e.ways
  pub sound : (x : Arc) → Contains e.row x → IsMove m e.from parts x
  pub small : (x : Arc) → Contains e.row x → IsSmall x
  pub followed : (k : ℕ) (w : Way) (i : ℕ) (a : Arc) → IsDone done j k i → slice_get e.ways k ≡ Some w → IsArc m.arcs w.state i a → IsFollowed e parts k w a
  pub ended : (k : ℕ) (w : Way) (f : ℕ) → k < done → 0 < k → slice_get e.ways k ≡ Some w → final_of m.finals w.state ≡ Some f → IsFound e parts k 0 0 (w.weight + f) Ended
  pub fit : Fit m parts
