use Rattle.rewrite_rules.specs.Befores.{LeadTo}
use Rattle.rewrite_rules.proofs.befores.sources.Given as goal

abbrev pub invariant-loop-s : goal.invariant-loop-s
invariant-loop-s l = LeadTo l.d l.byte l.s l.sources
