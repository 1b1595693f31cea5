use Rattle.std.proofs.Common.{◌≤◌, ◌-◌}
use Rattle.place_words.specs.Modes.{IsReading}
use Rattle.place_words.specs.Seats.{IsSeatOf, mode_of}
use Rattle.place_tests.proofs.table.finding.first_row.Given as goal

abbrev pub invariant-loop-low : goal.invariant-loop-low
invariant-loop-low l = IsSeatOf l.words l.seat × IsReading (mode_of l.seat) × (l.low ≤ l.high) × (l.high ≤ 339)

abbrev pub decreases-loop-low : goal.decreases-loop-low
decreases-loop-low l = l.high - l.low
