use Rattle.std.proofs.Common.{◌≡◌, ◌<◌, ℕ, List, take, drop}
use Rattle.place_words.specs.Places.{Agrees}
use Rattle.place_words.specs.Modes.{place_or, seen_of}
use Rattle.place_words.specs.Seats.{IsSeatOf, mode_of, view_of}
use Rattle.place_table.specs.Entries.{reading, seen_from}
use Rattle.place_table.proofs.reads.read_between.Given as goal

abbrev pub invariant-loop-i : goal.invariant-loop-i
invariant-loop-i g l = record {
  own : IsSeatOf l.words l.seat;
  kept : take l.from l.into ≡ take l.from l.fn.into;
  view : view_of l.seat ≡ reading (view_of l.fn.seat) (place_or 0 (mode_of l.fn.seat)) (seen_from l.from (drop l.from (take l.i l.into)));
  right : l.from < l.i → (code : List ℕ) × g.F.Fact.right (view_of l.fn.seat).tag code × Agrees (seen_of (mode_of l.seat)) code;
}
