use Rattle.std.specs.Prelude.{All}
use Rattle.lexicon_trees.specs.Entries.{IsEntry}
use Rattle.transducer_tests.proofs.lexicons.pairs.Given as goal

abbrev pub invariant-loop-i : goal.invariant-loop-i
invariant-loop-i l = All IsEntry l.entries.items
