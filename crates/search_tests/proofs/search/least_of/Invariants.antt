use Rattle.weighted_relations.specs.Machines.{WellFormed}
use Rattle.search_tests.proofs.Running.{Run, todo}
use Rattle.search_tests.proofs.search.least_of.Given as goal

abbrev pub invariant-loop-first : goal.invariant-loop-first
invariant-loop-first l = record {
  sound : WellFormed l.rule;
  run : Run l.rule l.line l.search.settled.items l.search.waiting.items;
}

abbrev pub decreases-loop-first : goal.decreases-loop-first
decreases-loop-first l = todo l.rule l.line l.search.settled.items l.search.waiting.items
