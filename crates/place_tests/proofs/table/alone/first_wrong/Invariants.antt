use Rattle.std.proofs.Common.{◌≡◌}
use Rattle.place_words.specs.Seats.{IsSeatOf, mode_of}
use Rattle.place_words.specs.declared.view.Mode.TheVariants.{Idle}
use Rattle.place_table.specs.Tables.{words_of}
use Rattle.place_tests.proofs.table.alone.first_wrong.Given as goal

abbrev pub invariant-loop-round : goal.invariant-loop-round
invariant-loop-round l = record {
  own : IsSeatOf (words_of l.table) l.seat;
  idle : mode_of l.seat ≡ Idle;
}
