-- The states and arcs of a transducer that reads before it writes.
use Rattle.std.specs.Prelude.{◌≡◌, ◌⊎◌, ◌<◌, ◌≤◌, ◌^◌, ℕ, List, [], ◌∷◌, Option, Some, None, length, get_or, slice_get}
use Rattle.std.specs.List.{Contains}
use Rattle.weighted_relations.specs.declared.Arc.{Arc}
use Rattle.weighted_relations.specs.Graphs.{label}
use Rattle.weighted_relations.specs.Machines.{Machine, final_of}
use Rattle.state_table.specs.Numbers.{Keeps}
use Rattle.reading_first.specs.declared.parts.Part.{Part}
use Rattle.reading_first.specs.declared.parts.Part.TheVariants.{At, Writes, Ended}
use Rattle.reading_first.specs.Ways.{Move}

-- from the part of this number on a text is written, and then comes a part
abbrev pub Before : List Part → ℕ → List ℕ → Part → Type 0
Before parts n [] p = slice_get parts n ≡ Some p
Before parts n (l ∷ t) p = (k : ℕ) × (slice_get parts n ≡ Some (Writes l k)) × Before parts k t p

-- an arc reads this label, writes this text or begins to, has this weight, and leads to the part behind the text
pub record Says (parts : List Part) (x : Arc) (input : ℕ) (text : List ℕ) (weight : ℕ) (p : Part) : Type 0 where
  pub reads : x.input ≡ input
  pub costs : x.weight ≡ weight
  pub rest : List ℕ
  pub writes : label x.output rest ≡ text
  pub leads : Before parts x.next rest p

-- an arc is a move
pub record IsMove (m : Machine) (q : ℕ) (parts : List Part) (x : Arc) : Type 0 where
  pub input : ℕ
  pub text : List ℕ
  pub weight : ℕ
  pub to : Part
  pub move : Move m q input text weight to
  pub says : Says parts x input text weight to

-- one of the arcs is this move
pub record Has (parts : List Part) (row : List Arc) (input : ℕ) (text : List ℕ) (weight : ℕ) (p : Part) : Type 0 where
  pub arc : Arc
  pub is : Contains row arc
  pub says : Says parts arc input text weight p

-- the arcs are the moves of a state, which is final as it was
pub record Moves (m : Machine) (q : ℕ) (parts : List Part) (row : List Arc) (last : Option ℕ) : Type 0 where
  pub sound : (x : Arc) → Contains row x → IsMove m q parts x
  pub found : (input : ℕ) (text : List ℕ) (weight : ℕ) (p : Part) → Move m q input text weight p → Has parts row input text weight p
  pub end : last ≡ final_of m.finals q

-- the state has one arc, which reads nothing, and no other way is there
pub record IsForced (m : Machine) (q : ℕ) (a : Arc) : Type 0 where
  pub arc : get_or m.arcs q [] ≡ a ∷ []
  pub silent : a.input ≡ 0
  pub end : final_of m.finals q ≡ None

-- such an arc stays
pub record Stays (m : Machine) (q : ℕ) (parts : List Part) (row : List Arc) (last : Option ℕ) : Type 0 where
  pub was : Arc
  pub forced : IsForced m q was
  pub arc : Arc
  pub alone : row ≡ arc ∷ []
  pub input : arc.input ≡ 0
  pub output : arc.output ≡ was.output
  pub weight : arc.weight ≡ was.weight
  pub next : slice_get parts arc.next ≡ Some (At was.next)
  pub end : last ≡ None

abbrev pub writing : ℕ → ℕ → Arc
writing l k = record { input = 0; output = l; weight = 0; next = k }

-- the arcs and the final weight of a part
abbrev pub RowOf : Machine → List Part → Part → List Arc → Option ℕ → Type 0
RowOf m parts (At q) row last = Stays m q parts row last ⊎ Moves m q parts row last
RowOf m parts (Writes l k) row last = (row ≡ writing l k ∷ []) × (last ≡ None)
RowOf m parts Ended row last = (row ≡ []) × (last ≡ Some 0)

-- a part among so many, of a transducer
abbrev pub PartFits : Machine → ℕ → Part → Type 0
PartFits m n (At q) = q < length m.arcs
PartFits m n (Writes l k) = (0 < l) × (l ≤ 257) × (k < n)
PartFits m n Ended = Unit {0}

abbrev pub Fit : Machine → List Part → Type 0
Fit m parts = (i : ℕ) (p : Part) → slice_get parts i ≡ Some p → PartFits m (length parts) p

-- The states of r are the numbers of parts, and its arcs and final weights are those of the parts.
pub record IsShaped (m r : Machine) : Type 0 where
  pub parts : List Part
  pub start : slice_get parts r.start ≡ Some (At m.start)
  pub rows : (n : ℕ) (p : Part) → slice_get parts n ≡ Some p → RowOf m parts p (get_or r.arcs n []) (final_of r.finals n)
  pub fit : Fit m parts

-- an arc of a transducer, but for where it leads
pub record IsSmall (x : Arc) : Type 0 where
  pub input : x.input ≤ 257
  pub output : x.output ≤ 257
  pub weight : x.weight < 2 ^ 54

-- the arcs and the final weight of a part, which may make parts new
pub record RowMade (m : Machine) (old new : List Part) (p : Part) (row : List Arc) (last : Option ℕ) : Type 0 where
  pub is : RowOf m new p row last
  pub small : (x : Arc) → Contains row x → IsSmall x
  pub light : (w : ℕ) → last ≡ Some w → w < 2 ^ 54
  pub keeps : Keeps old new
  pub fit : Fit m new
