use Rattle.std.proofs.Common.{All}
use Rattle.weighted_relations.specs.Relations.{IsLabel}
use Rattle.search_tests.proofs.tests.labels_of.Given as goal

abbrev pub invariant-loop-b : goal.invariant-loop-b
invariant-loop-b l = All IsLabel l.labels.items
