use Rattle.std.proofs.Common.{◌≡◌, ◌<◌, ◌≤◌, ℕ, length, take, get_or}
use Rattle.place_words.specs.Seats.{IsSeatOf, places_of, view_of}
use Rattle.place_table.specs.declared.answers.Refusal.TheVariants.{Held}
use Rattle.place_table.specs.Entries.{Adds}
use Rattle.place_table.specs.Looks.{key_in}
use Rattle.place_table.specs.Publishings.{AllRefused}
use Rattle.place_table.specs.Ways.{first_ways}
use Rattle.place_table.proofs.publishing.put_shown.Given as goal

abbrev pub invariant-loop-i : goal.invariant-loop-i
invariant-loop-i g l = record {
  own : IsSeatOf l.words l.seat;
  wide : length l.refusals ≡ 4;
  refused : Adds (view_of l.fn.seat) (view_of l.seat) (AllRefused (first_ways (key_in l.code) (places_of l.words) l.i) (take l.i l.found) (take l.i l.refusals));
  past : (k : ℕ) → l.i ≤ k → k < 4 → get_or l.refusals k (Held 0) ≡ Held 0;
}
