use Rattle.rewrite_rules.specs.Befores.{AreBefore}
use Rattle.rewrite_rules.proofs.befores.Befores.new.Given as goal

abbrev pub invariant-loop-class : goal.invariant-loop-class
invariant-loop-class l = AreBefore l.t l.classes l.class l.table.items
