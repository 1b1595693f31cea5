use Rattle.std.proofs.Common.{take, map, ◌≤◌}
use Rattle.std.specs.List.{sum_by}
use Rattle.fst_core.specs.Top.{top_of}
use Rattle.weighted_relations.specs.Expressions.{literals, members}
use Rattle.weighted_relations.specs.ExpressionLaws.{Alike}
use Rattle.core_expressions.specs.Views.{expression_of}
use Rattle.grammar_build.specs.Parts.{Parted}
use Rattle.grammar_build.specs.Empties.{OneRewritesEmptyText}
use Rattle.grammar_build.proofs.builds.+build.Given as goal

abbrev pub invariant-build_union-loop-part : goal.invariant-build_union-loop-part
invariant-build_union-loop-part l = Parted (map expression_of (take l.part-index l.parts)) l.entries.items l.others.items

abbrev pub invariant-build_each-loop-part : goal.invariant-build_each-loop-part
invariant-build_each-loop-part l = record {
  readings : Alike l.all.items (map expression_of (take l.part-index l.parts));
  top : sum_by top_of l.all.items ≤ sum_by (λ e. literals (expression_of e)) (take l.part-index l.parts);
  complete : OneRewritesEmptyText (members (map expression_of (take l.part-index l.parts))) → ⊥;
}
