use Rattle.std.proofs.Common.{◌≡◌, take, min}
use Rattle.std.specs.List.{sum_by}
use Rattle.weighted_relations.specs.Expressions.{size}
use Rattle.core_expressions.specs.Views.{expression_of}
use Rattle.core_expressions.proofs.+size.Given as goal

abbrev pub invariant-sizes::sizes-loop-part : goal.invariant-sizes::sizes-loop-part
invariant-sizes::sizes-loop-part l = l.all ≡ min (sum_by (λ e. size (expression_of e)) (take l.part-index l.parts)) 18446744073709551615
