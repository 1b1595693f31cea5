use Rattle.std.proofs.Common.{◌≡◌, ◌<◌, ◌≤◌, ℕ, List, length, take, get_or}
use Rattle.std.specs.Prelude.{All}
use Rattle.place_words.specs.Seats.{IsSeatOf, view_of}
use Rattle.place_words.specs.declared.view.Entry.{Entry}
use Rattle.place_table.specs.declared.answers.Found.TheVariants.{Empty}
use Rattle.place_table.specs.Entries.{logged}
use Rattle.place_table.specs.Looks.{AllPassed}
use Rattle.place_table.specs.Ways.{first_ways}
use Rattle.place_words.specs.Seats.{places_of}
use Rattle.place_table.specs.Parts.{AreFew, IsFree}
use Rattle.place_table.proofs.looks.find_into.Given as goal

abbrev pub invariant-loop-i : goal.invariant-loop-i
invariant-loop-i g l = record {
  own : IsSeatOf l.words l.seat;
  wide : length l.found ≡ 4;
  room : 7 ≤ length l.into;
  passed : (es : List Entry) × (AllPassed l.key (first_ways l.key (places_of l.words) l.i) (take l.i l.found) es × AreFew es) × (view_of l.seat ≡ logged (view_of l.fn.seat) es);
  free : (view_of l.fn.seat).seats ≡ 1 → All IsFree (take l.i l.found);
  past : (k : ℕ) → l.i ≤ k → k < 4 → get_or l.found k Empty ≡ Empty;
}
