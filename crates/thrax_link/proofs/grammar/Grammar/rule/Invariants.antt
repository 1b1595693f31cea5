use Rattle.std.proofs.Common.{◌≡◌, length}
use Rattle.thrax_link.specs.Exports.{expression_named, exports_of}
use Rattle.thrax_link.proofs.grammar.Grammar.rule.Given as goal

abbrev pub invariant-loop-rest : goal.invariant-loop-rest
invariant-loop-rest l = expression_named (exports_of l.rest) l.name ≡ expression_named (exports_of l.self) l.name

abbrev pub decreases-loop-rest : goal.decreases-loop-rest
decreases-loop-rest l = length l.rest
