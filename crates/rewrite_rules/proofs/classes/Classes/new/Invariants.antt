use Rattle.rewrite_rules.specs.Classes.{AreClassesTo}
use Rattle.rewrite_rules.proofs.classes.Classes.new.Given as goal

abbrev pub invariant-loop-byte : goal.invariant-loop-byte
invariant-loop-byte l = AreClassesTo l.t l.byte l.classes
