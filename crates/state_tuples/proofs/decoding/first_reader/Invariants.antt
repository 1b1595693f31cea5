use Rattle.std.proofs.Common.{◌-◌, ◌<◌, ◌≤◌, ℕ, List, length, get_or}
use Rattle.std.specs.Prelude.{Option}
use Rattle.state_tuples.specs.declared.tuples.Tuple.{Tuple}
use Rattle.state_tuples.specs.declared.tuples.TupleArc.{TupleArc}
use Rattle.state_tuples.specs.Codes.{IsCodeOf, no_arc}
use Rattle.state_tuples.specs.Orders.{InOrder}
use Rattle.state_tuples.proofs.decoding.first_reader.Given as goal

-- what lies outside of the part that is left was decided
abbrev pub invariant-loop-low : goal.invariant-loop-low
invariant-loop-low l = (t : Tuple) (end : Option ℕ) (arcs : List TupleArc) → IsCodeOf t end arcs l.code → InOrder arcs
    → (l.low ≤ l.high) × (l.high ≤ length arcs)
    × ((k : ℕ) → k < l.low → (get_or arcs k no_arc).input < l.label)
    × ((k : ℕ) → l.high ≤ k → k < length arcs → l.label ≤ (get_or arcs k no_arc).input)

abbrev pub decreases-loop-low : goal.decreases-loop-low
decreases-loop-low l = l.high - l.low
