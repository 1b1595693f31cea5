use Rattle.std.proofs.Common.{◌≡◌, length, take}
use Rattle.std.specs.Prelude.{All}
use Rattle.place_words.specs.Seats.{IsSeatOf, places_of, view_of}
use Rattle.place_table.specs.Entries.{Adds}
use Rattle.place_table.specs.Looks.{key_in}
use Rattle.place_table.specs.Parts.{IsAtRest}
use Rattle.place_table.specs.Publishings.{NoneEmpty}
use Rattle.place_table.specs.Ways.{first_ways}
use Rattle.place_table.proofs.publishing.put.Given as goal

abbrev pub invariant-loop-i : goal.invariant-loop-i
invariant-loop-i g l = record {
  own : IsSeatOf l.words l.seat;
  wide : length l.found ≡ 4;
  tried : Adds (view_of l.fn.seat) (view_of l.seat) (NoneEmpty (first_ways (key_in l.code) (places_of l.words) l.i) (take l.i l.found));
  resting : (view_of l.fn.seat).seats ≡ 1 → All IsAtRest (take l.i l.found);
}
