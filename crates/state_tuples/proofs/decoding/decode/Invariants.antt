use Rattle.std.proofs.Common.{◌≡◌, ℕ, List, take}
use Rattle.std.specs.Prelude.{Option}
use Rattle.state_tuples.specs.declared.tuples.Tuple.{Tuple}
use Rattle.state_tuples.specs.declared.tuples.TupleArc.{TupleArc}
use Rattle.state_tuples.specs.Codes.{IsCodeOf}
use Rattle.state_tuples.proofs.decoding.decode.Given as goal

abbrev pub invariant-loop-k : goal.invariant-loop-k
invariant-loop-k l = (t : Tuple) (end : Option ℕ) (arcs : List TupleArc) → IsCodeOf t end arcs l.code → l.arcs.items ≡ take l.k arcs
