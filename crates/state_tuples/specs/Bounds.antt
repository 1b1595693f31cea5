-- The tuples of a cascade are few, its moves lead to its tuples, and its weights are small.
use Rattle.std.specs.Prelude.{◌≡◌, ◌<◌, ◌≤◌, ℕ, ◌^◌, Some, slice_get}
use Rattle.weighted_relations.specs.SearchEnds.{Numbered}
use Rattle.state_tuples.specs.declared.tuples.Tuple.{Tuple}
use Rattle.state_tuples.specs.declared.tuples.TupleArc.{TupleArc}
use Rattle.state_tuples.specs.Cascades.{Cascaded, IsOf, first_tuple, moves_of, end_of, next_of}

pub record MoveFits (c : Cascaded) (t : Tuple) (a : TupleArc) : Type 0 where
  pub input : a.input ≤ 257
  pub output : a.output ≤ 257
  pub weight : a.weight < 2 ^ 56
  pub next : IsOf c (next_of t a)

pub record IsClosed (c : Cascaded) : Type 0 where
  pub start : IsOf c (first_tuple c)
  pub moves : (t : Tuple) (k : ℕ) (a : TupleArc) → IsOf c t → slice_get (moves_of c t) k ≡ Some a → MoveFits c t a
  pub ends : (t : Tuple) (w : ℕ) → IsOf c t → end_of c t ≡ Some w → w < 2 ^ 56

-- numbers below a bound that tell the tuples of the cascade apart
pub record AreFew (c : Cascaded) : Type 0 where
  pub bound : ℕ
  pub code : Tuple → ℕ
  pub numbered : Numbered (IsOf c) bound code
