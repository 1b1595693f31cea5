use Rattle.std.proofs.Common.{◌≡◌, length}
use Rattle.place_words.specs.Modes.{IsReading}
use Rattle.place_words.specs.Seats.{IsSeatOf, mode_of}
use Rattle.place_tests.proofs.table.finding.row_of.Given as goal

abbrev pub invariant-loop-i : goal.invariant-loop-i
invariant-loop-i l = IsSeatOf l.words l.seat × IsReading (mode_of l.seat) × (length l.row ≡ 6)
