use Rattle.std.proofs.Common.{map, take}
use Rattle.core_expressions.specs.Views.{expression_of}
use Rattle.grammar_build.specs.Empties.{RewritesEmptyText}
use Rattle.normaliser.specs.Parts.{AllReadAs, NoneBefore}
use Rattle.normaliser.proofs.loading.build_all.Given as goal

abbrev pub invariant-loop-i : goal.invariant-loop-i
invariant-loop-i l = record {
  readings : AllReadAs l.parts.items (take l.i (map expression_of l.rules));
  none : NoneBefore RewritesEmptyText (map expression_of l.rules) l.i;
}
