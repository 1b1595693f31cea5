use Rattle.std.proofs.Common.{◌≡◌, ◌≤◌, length, take}
use Rattle.place_words.specs.Modes.{place_or}
use Rattle.place_words.specs.Seats.{view_of, mode_of, IsSeatOf}
use Rattle.place_table.specs.Entries.{writing}
use Rattle.place_table.proofs.publishing.fill.Given as goal

abbrev pub invariant-loop-x : goal.invariant-loop-x
invariant-loop-x g l = record {
  own : IsSeatOf l.words l.seat;
  few : length l.code ≤ 2048;
  view : view_of l.seat ≡ writing (view_of l.fn.seat) (place_or 0 (mode_of l.fn.seat)) (take l.x-index l.code);
}
