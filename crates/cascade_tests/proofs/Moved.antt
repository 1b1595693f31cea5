-- The moves of an expansion lead to tuples of the cascade.
use Rattle.std.specs.Prelude.{List, All, get_or}
use Rattle.std.proofs.lemmas.Option.{slice_get-get_or}
use Rattle.std.proofs.lemmas.List.Sorted.{All-permutation}
use Rattle.state_tuples.specs.declared.tuples.Tuple.{Tuple}
use Rattle.state_tuples.specs.declared.tuples.TupleArc.{TupleArc}
use Rattle.state_tuples.specs.Cascades.{Cascaded, IsOf, IsSound, moves_of, next_of}
use Rattle.state_tuples.specs.Orders.{Ordered}
use Rattle.state_tuples.proofs.ClosedTuples.{tuples_are_closed}

pub moved : (c : Cascaded) → IsSound c → (t : Tuple) → IsOf c t → (arcs : List TupleArc) → Ordered (moves_of c t) arcs → All (λ a. IsOf c (next_of t a)) arcs
moved c sound t known arcs ordered =
    All-permutation (λ a. IsOf c (next_of t a)) (moves_of c t) arcs ordered.same
    (λ k a l. ((tuples_are_closed c sound).moves t k (get_or (moves_of c t) k a) known (slice_get-get_or (moves_of c t) k a l)).next)
