use Rattle.std.specs.Prelude.{◌≡◌, ◌<◌, ◌≤◌, ◌*◌, List, filter, get_or, length, nat_eq, take}
use Rattle.std.specs.Vec.{vec_capacity}
use Rattle.place_words.specs.declared.view.Read.{Read}
use Rattle.place_words.specs.Modes.{seen_of}
use Rattle.place_words.specs.Seats.{fact_of, mode_of, view_of}
use Rattle.state_tuples.specs.Codes.{IsFirstReader, labels_word, no_arc}
use Rattle.shared_cascade.specs.Held.{IsHeld, OfSeen, read_on}
use Rattle.shared_cascade.proofs.holding.put_from.Given as goal

abbrev pub invariant-loop-k : goal.invariant-loop-k
invariant-loop-k l = record {
  held : IsHeld l.words l.seat;
  read : (rs : List Read) × (length rs ≤ 6 * length l.into.items) × (view_of l.seat ≡ read_on (view_of l.initial.seat) rs);
  all : OfSeen (fact_of l.words) (seen_of (mode_of l.seat)) (λ arcs. l.count ≡ length arcs);
  first : OfSeen (fact_of l.words) (seen_of (mode_of l.seat)) (λ arcs. IsFirstReader arcs l.label l.fn.first.0);
  put : OfSeen (fact_of l.words) (seen_of (mode_of l.seat)) (λ arcs. l.into.items ≡ filter (λ a. nat_eq a.input l.label) (take l.k arcs));
  next : OfSeen (fact_of l.words) (seen_of (mode_of l.seat)) (λ arcs. l.k < length arcs → l.labels ≡ labels_word (get_or arcs l.k no_arc));
  room : vec_capacity l.initial.into ≤ vec_capacity l.into;
}
