use Rattle.std.specs.Prelude.{All}
use Rattle.weighted_relations.specs.Relations.{IsLabel}
use Rattle.transducer_tests.proofs.lexicons.labels.Given as goal

abbrev pub invariant-loop-byte : goal.invariant-loop-byte
invariant-loop-byte l = All IsLabel l.all.items
