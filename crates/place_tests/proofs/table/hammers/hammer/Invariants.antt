use Rattle.std.proofs.Common.{◌≡◌}
use Rattle.place_words.specs.Seats.{IsSeatOf, mode_of}
use Rattle.place_words.specs.declared.view.Mode.TheVariants.{Idle}
use Rattle.place_table.specs.Tables.{words_of}
use Rattle.place_tests.proofs.table.hammers.hammer.Given as goal

abbrev pub invariant-loop-i : goal.invariant-loop-i
invariant-loop-i l = record {
  own : IsSeatOf (words_of l.table) l.seat;
  idle : mode_of l.seat ≡ Idle;
}
