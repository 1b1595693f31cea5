-- Nodes from which one edge alone leads on.
use Rattle.std.specs.Prelude.{◌≡◌, ℕ, List, [], All, Contains, get_or}
use Rattle.weighted_relations.specs.declared.Arc.{Arc}
use Rattle.weighted_relations.specs.Machines.{Machine}
use Rattle.state_tuples.specs.declared.tuples.Tuple.{Tuple}
use Rattle.state_tuples.specs.declared.tuples.TupleArc.{TupleArc}
use Rattle.state_tuples.specs.Cascades.{Cascaded, IsOf}
use Rattle.state_tuples.specs.Calls.{IsOnlyMove}

-- the arc reads a label
abbrev pub Reads : Arc → Type 0
Reads a = a.input ≡ 0 → ⊥

-- the tuple has one move alone, which reads nothing
abbrev pub IsForcedOf : List Cascaded → Tuple → TupleArc → Type 0
IsForcedOf cs t a = (c : Cascaded) → Contains cs c → IsOf c t → IsOnlyMove c t a

-- so it is, and the source has to read at this state
pub record IsForced (m : Machine) (cs : List Cascaded) (q : ℕ) (t : Tuple) (a : TupleArc) : Type 0 where
  pub source : All Reads (get_or m.arcs q [])
  pub tuple : IsForcedOf cs t a
