use Rattle.rewrite_rules.specs.AnyTexts.{Loops}
use Rattle.rewrite_rules.proofs.any_texts.loops.Given as goal

abbrev pub invariant-loop-c : goal.invariant-loop-c
invariant-loop-c l = Loops l.c l.row.items
