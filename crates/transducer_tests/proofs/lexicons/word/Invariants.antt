use Rattle.std.specs.Prelude.{All}
use Rattle.weighted_relations.specs.Relations.{IsLabel}
use Rattle.transducer_tests.proofs.lexicons.word.Given as goal

abbrev pub invariant-loop-i : goal.invariant-loop-i
invariant-loop-i l = All IsLabel l.all.items
