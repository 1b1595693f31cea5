use Rattle.std.proofs.Common.{◌≡◌}
use Rattle.place_words.specs.Seats.{IsSeatOf, mode_of}
use Rattle.place_words.specs.declared.view.Mode.TheVariants.{Idle}
use Rattle.place_table.specs.Tables.{words_of}
use Rattle.place_tests.proofs.table.finding.most_read.Given as goal

abbrev pub invariant-loop-row : goal.invariant-loop-row
invariant-loop-row l = IsSeatOf (words_of l.table) l.seat × (mode_of l.seat ≡ Idle)
