-- A transducer's states beside an automaton's.
use Rattle.std.specs.Prelude.{◌≡◌, ◌<◌, ℕ, zero, suc, List, length, get_or, Bool, true, false, Option, Some, None, slice_get}
use Rattle.weighted_relations.specs.declared.Arc.{Arc}
use Rattle.weighted_relations.specs.Machines.{Machine}
use Rattle.acceptor_ops.specs.Tables.{Table, step_of}
use Rattle.state_table.specs.Numbers.{Keeps}

-- a state of a transducer beside a state of an automaton
abbrev pub Pair : Type 0
Pair = ℕ × ℕ

abbrev pub no_pair : Pair
no_pair = (0, 0)

-- the automaton's state after an input label, of which 0 is empty
abbrev pub moved : Table → ℕ → ℕ → ℕ
moved t q zero = q
moved t q (suc n) = step_of t q (suc n)

-- the pair is one of both
pub record IsPair (m : Machine) (t : Table) (p : Pair) : Type 0 where
  pub first : p.0 < length m.arcs
  pub second : p.1 < length t.next

abbrev pub ArePairs : Machine → Table → List Pair → Type 0
ArePairs m t ps = (k : ℕ) → k < length ps → IsPair m t (get_or ps k no_pair)

-- b is the arc a beside a step from the state q
pub record Beside (t : Table) (ps : List Pair) (q : ℕ) (a b : Arc) : Type 0 where
  pub input : b.input ≡ a.input
  pub output : b.output ≡ a.output
  pub weight : b.weight ≡ a.weight
  pub within : b.next < length ps
  pub next : get_or ps b.next no_pair ≡ (a.next, moved t q a.input)

-- these are the first n arcs beside steps from the state q
pub record RowBeside (t : Table) (ps : List Pair) (q n : ℕ) (old new : List Arc) : Type 0 where
  pub count : length new ≡ n
  pub arcs : (i : ℕ) (a : Arc) → i < n → slice_get old i ≡ Some a → (b : Arc) × (slice_get new i ≡ Some b) × Beside t ps q a b

-- the pairs new have those of old, and the first n arcs of the row
pub record Paired (m : Machine) (t : Table) (old new : List Pair) (q n : ℕ) (row made : List Arc) : Type 0 where
  pub keeps : Keeps old new
  pub pairs : ArePairs m t new
  pub beside : RowBeside t new q n row made

-- final where the transducer is and the automaton isn't
abbrev pub final_beside : Bool → Option ℕ → Option ℕ
final_beside true last = None
final_beside false last = last
