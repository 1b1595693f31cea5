use Rattle.std.specs.Prelude.{◌≡◌, ◌<◌, ◌≤◌, ◌+◌, ◌-◌, ◌^◌, ℕ, List, get_or, length}
use Rattle.place_words.specs.declared.view.Read.{Read}
use Rattle.place_words.specs.Modes.{seen_of}
use Rattle.place_words.specs.Seats.{fact_of, mode_of, view_of}
use Rattle.state_tuples.specs.Codes.{labels_word, no_arc}
use Rattle.shared_cascade.specs.Held.{IsHeld, OfSeen, read_on}
use Rattle.shared_cascade.proofs.Seen.{Between}
use Rattle.shared_cascade.proofs.holding.first_reader.Given as goal

-- what lies outside of the part that is left was decided, and what is left is halved so many times more
abbrev pub invariant-loop-low : goal.invariant-loop-low
invariant-loop-low l = record {
  held : IsHeld l.words l.seat;
  range : (l.low ≤ l.high) × (l.high ≤ l.count);
  read : (j : ℕ) × (rs : List Read) × (length rs + j ≤ 9) × (l.high - l.low < 2 ^ j) × (view_of l.seat ≡ read_on (view_of l.initial.seat) rs);
  decided : OfSeen (fact_of l.words) (seen_of (mode_of l.seat)) (λ arcs. Between arcs l.label l.low l.high);
  found : OfSeen (fact_of l.words) (seen_of (mode_of l.seat)) (λ arcs. l.high < length arcs → l.found ≡ labels_word (get_or arcs l.high no_arc));
}

abbrev pub decreases-loop-low : goal.decreases-loop-low
decreases-loop-low l = l.high - l.low
