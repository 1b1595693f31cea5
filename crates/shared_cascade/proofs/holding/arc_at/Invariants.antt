use Rattle.std.specs.Prelude.{◌≡◌, ◌≤◌, ◌+◌, List, get_or, length, take}
use Rattle.place_words.specs.declared.view.Read.{Read}
use Rattle.place_words.specs.Modes.{seen_of}
use Rattle.place_words.specs.Seats.{fact_of, mode_of, view_of}
use Rattle.state_tuples.specs.Codes.{arc_words, no_arc}
use Rattle.shared_cascade.specs.Held.{IsHeld, OfSeen, read_on}
use Rattle.shared_cascade.proofs.holding.arc_at.Given as goal

abbrev pub invariant-loop-i : goal.invariant-loop-i
invariant-loop-i l = record {
  held : IsHeld l.words l.seat;
  wide : length l.all ≡ 6;
  read : (rs : List Read) × (length rs + 1 ≤ l.i) × (view_of l.seat ≡ read_on (view_of l.initial.seat) rs);
  same : OfSeen (fact_of l.words) (seen_of (mode_of l.seat)) (λ arcs. take l.i l.all ≡ take l.i (arc_words (get_or arcs l.k no_arc)));
}
