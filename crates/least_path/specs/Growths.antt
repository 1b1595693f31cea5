-- What a node of the search leads to, part by part.
use Rattle.std.specs.Prelude.{◌≡◌, ℕ, zero, suc, List, [], Option, Some, None, Contains}
use Rattle.weighted_relations.specs.declared.Arc.{Arc}
use Rattle.weighted_relations.specs.Graphs.{label}
use Rattle.weighted_relations.specs.Machines.{Machine}
use Rattle.weighted_relations.specs.Searches.{Edges}
use Rattle.state_tuples.specs.declared.tuples.Tuple.{Tuple}
use Rattle.state_tuples.specs.declared.tuples.TupleArc.{TupleArc}
use Rattle.state_tuples.specs.Cascades.{Cascaded, end_of, next_of, tuple_graph}
use Rattle.state_tuples.specs.Orders.{moves_on}
use Rattle.least_path.specs.declared.node.Node.{Node}
use Rattle.least_path.specs.declared.node.Node.TheVariants.{At, End}
use Rattle.least_path.specs.Products.{Joint, Together}

-- where edges lead to, at which weight and with which output
abbrev pub Leading : Type 1
Leading = Node → ℕ → List ℕ → Type 0

abbrev pub joint_of : Node → Joint Tuple
joint_of (At q t) = Some (q, t)
joint_of End = None

-- the edges of the search
abbrev pub Steps : Machine → Cascaded → Edges Node
Steps m c n o = Together m (tuple_graph c) (joint_of n) (joint_of o)

-- these moves, with the source at r afterwards
abbrev pub AlongMoves : ℕ → Tuple → List TupleArc → Leading
AlongMoves r t moves n u z = (b : TupleArc) × Contains moves b × (n ≡ At r (next_of t b)) × (u ≡ b.weight) × (z ≡ label b.output [])

-- one arc of the source, with the moves that read its input
abbrev pub AlongArc : Cascaded → Tuple → Arc → ℕ → Leading
AlongArc c t a zero n u z = (n ≡ At a.next t) × (u ≡ 0) × (z ≡ [])
AlongArc c t a (suc i) n u z = AlongMoves a.next t (moves_on c t (suc i)) n u z

abbrev pub AlongArcs : Cascaded → Tuple → List Arc → Leading
AlongArcs c t row n u z = (a : Arc) × Contains row a × AlongArc c t a a.input n u z

-- the end, where the source is at an end and the tuple is
pub record AtEnd (c : Cascaded) (t : Tuple) (last : Option ℕ) (n : Node) (u : ℕ) (z : List ℕ) : Type 0 where
  pub node : n ≡ End
  pub final : ℕ
  pub source : last ≡ Some final
  pub tuple : end_of c t ≡ Some u
  pub output : z ≡ []
