use Rattle.rewrite_rules.proofs.classes.Classes.like.Given as goal

abbrev pub invariant-loop-class : goal.invariant-loop-class
invariant-loop-class l = Unit {0}
