use Rattle.std.proofs.Common.{◌≡◌, ℕ, List, take}
use Rattle.std.specs.Prelude.{Option, nat_eq}
use Rattle.std.specs.List.{filter}
use Rattle.state_tuples.specs.declared.tuples.Tuple.{Tuple}
use Rattle.state_tuples.specs.declared.tuples.TupleArc.{TupleArc}
use Rattle.state_tuples.specs.Codes.{IsCodeOf}
use Rattle.state_tuples.specs.Orders.{InOrder}
use Rattle.state_tuples.proofs.decoding.arcs_in.Given as goal

abbrev pub invariant-loop-k : goal.invariant-loop-k
invariant-loop-k l = (t : Tuple) (end : Option ℕ) (arcs : List TupleArc) → IsCodeOf t end arcs l.code → InOrder arcs → l.into.items ≡ filter (λ a. nat_eq a.input l.label) (take l.k arcs)
