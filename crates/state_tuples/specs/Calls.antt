-- What the calls of an expander are owed and answer.
use Rattle.std.specs.Prelude.{◌≡◌, ℕ, ◌+◌, List, [], ◌∷◌, Option, Some, None, slice_get, Contains}
use Rattle.state_tuples.specs.declared.tuples.Tuple.{Tuple}
use Rattle.state_tuples.specs.declared.tuples.TupleArc.{TupleArc}
use Rattle.state_tuples.specs.declared.onward.Onward.{Onward}
use Rattle.state_tuples.specs.declared.onward.Onward.TheVariants.{Reads, Forced, Unknown}
use Rattle.weighted_relations.specs.Graphs.{GraphFrom}
use Rattle.look_ahead.specs.Aheads.{first_label}
use Rattle.state_tuples.specs.Cascades.{Cascaded, IsOf, end_of, moves_of, tuple_graph}
use Rattle.state_tuples.specs.Orders.{Ordered, moves_on}

-- no two have one number
abbrev pub HaveOwnNumbers : List Cascaded → Type 0
HaveOwnNumbers cs = (i j : ℕ) (c d : Cascaded) → slice_get cs i ≡ Some c → slice_get cs j ≡ Some d → c.number ≡ d.number → i ≡ j

-- a tuple of one of the cascades
abbrev pub IsKnown : List Cascaded → Tuple → Type 0
IsKnown cs t = (c : Cascaded) × Contains cs c × IsOf c t

-- the moves of the tuple that read the label, in order
abbrev pub AreArcsOn : List Cascaded → Tuple → ℕ → List TupleArc → Type 0
AreArcsOn cs t label arcs = (c : Cascaded) → Contains cs c → IsOf c t → Ordered (moves_on c t label) arcs

-- the final weight of the tuple
abbrev pub IsEndOf : List Cascaded → Tuple → Option ℕ → Type 0
IsEndOf cs t last = (c : Cascaded) → Contains cs c → IsOf c t → last ≡ end_of c t

-- No path over the tuples of the cascade from this one reads the label next. With label 0, none that reads nothing ends.
abbrev pub ReadsNot : Cascaded → Tuple → ℕ → Type 0
ReadsNot c t label = (x y : List ℕ) (w : ℕ) → GraphFrom (tuple_graph c) t x y w → first_label x ≡ label → ⊥

-- so it is in the cascade that the tuple's number names
abbrev pub CannotRead : List Cascaded → Tuple → ℕ → Type 0
CannotRead cs t label = (c : Cascaded) → Contains cs c → t.cascade ≡ c.number → ReadsNot c t label

-- the only move of the tuple reads nothing, and the tuple is no end
pub record IsOnlyMove (c : Cascaded) (t : Tuple) (a : TupleArc) : Type 0 where
  pub moves : moves_of c t ≡ a ∷ []
  pub silent : a.input ≡ 0
  pub no_end : end_of c t ≡ None

-- what is told of how a tuple of the cascade goes on is so
abbrev pub IsOnward : Cascaded → Tuple → Onward → Type 0
IsOnward c t Reads = moves_on c t 0 ≡ []
IsOnward c t (Forced a) = IsOnlyMove c t a
IsOnward c t Unknown = Unit {0}

-- so it is in the cascade that the tuple is of
abbrev pub GoesOnward : List Cascaded → Tuple → Onward → Type 0
GoesOnward cs t told = (c : Cascaded) → Contains cs c → IsOf c t → IsOnward c t told

-- a number of calls, where it is told, is one more
abbrev pub IsCounted : Option ℕ → Option ℕ → Type 0
IsCounted None now = now ≡ None
IsCounted (Some n) now = now ≡ Some (n + 1)
