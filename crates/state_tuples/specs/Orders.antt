-- The order of the arcs of an expansion, and what an expansion is.
use Rattle.std.specs.Prelude.{◌≡◌, ◌<◌, ℕ, List, ◌∷◌, Some, slice_get, filter, nat_eq, IsPermutation}
use Rattle.weighted_relations.specs.Least.{BytesBelow}
use Rattle.state_tuples.specs.declared.tuples.Tuple.{Tuple}
use Rattle.state_tuples.specs.declared.tuples.TupleArc.{TupleArc}
use Rattle.state_tuples.specs.declared.tuples.Expansion.{Expansion}
use Rattle.state_tuples.specs.Cascades.{Cascaded, moves_of, end_of}

-- what arcs are ordered by: input, output, weight, filters and then the states
abbrev pub words : TupleArc → List ℕ
words a = a.input ∷ a.output ∷ a.weight ∷ a.filters ∷ a.states

-- each arc is no greater than those after it
abbrev pub InOrder : List TupleArc → Type 0
InOrder arcs = (i j : ℕ) (a b : TupleArc) → i < j → slice_get arcs i ≡ Some a → slice_get arcs j ≡ Some b → BytesBelow (words a) (words b)

-- these arcs, each as often as it comes, in order
pub record Ordered (all arcs : List TupleArc) : Type 0 where
  pub same : IsPermutation all arcs
  pub order : InOrder arcs

-- the moves of the tuple in order, and its final weight
pub record IsExpansion (c : Cascaded) (t : Tuple) (x : Expansion) : Type 0 where
  pub arcs : Ordered (moves_of c t) x.arcs.items
  pub finality : x.finality ≡ end_of c t

-- the moves that read a label
abbrev pub moves_on : Cascaded → Tuple → ℕ → List TupleArc
moves_on c t label = filter (λ a. nat_eq a.input label) (moves_of c t)
