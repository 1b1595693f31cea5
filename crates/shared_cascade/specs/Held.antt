-- What is known of the code of a place where a caller stays and reads.
use Rattle.std.specs.Prelude.{◌≡◌, ◌≤◌, ℕ, List, Option, All, length}
use Rattle.place_words.specs.declared.words.Seat.{Seat}
use Rattle.place_words.specs.declared.words.Words.{Words}
use Rattle.place_words.specs.declared.view.Read.{Read}
use Rattle.place_words.specs.declared.view.View.{View}
use Rattle.place_words.specs.Places.{Agrees}
use Rattle.place_words.specs.Modes.{IsReading, place_or, seen_of}
use Rattle.place_words.specs.Seats.{IsSeatOf, fact_of, mode_of, view_of}
use Rattle.place_words.specs.Steps.{left}
use Rattle.place_table.specs.Entries.{reading}
use Rattle.std.specs.Prelude.{true}
use Rattle.state_tuples.specs.declared.tuples.Tuple.{Tuple}
use Rattle.state_tuples.specs.declared.tuples.TupleArc.{TupleArc}
use Rattle.state_tuples.specs.Cascades.{IsSound}
use Rattle.state_tuples.specs.Codes.{IsCodeOf, code_of}
use Rattle.state_tuples.specs.Orders.{InOrder}
use Rattle.shared_cascade.specs.declared.facts.Grammars.{Grammars}
use Rattle.shared_cascade.specs.Grammars.{HaveNumbers, cascades_of}
use Rattle.shared_cascade.specs.RightCodes.{IsRight}

-- A right code has all words that were read: that of this tuple, with this final weight and these arcs.
pub record IsSeen (g : Grammars) (seen : List Read) (t : Tuple) (end : Option ℕ) (arcs : List TupleArc) : Type 0 where
  pub right : IsRight (cascades_of g) (code_of t end arcs)
  pub agrees : Agrees seen (code_of t end arcs)
  pub is_code : IsCodeOf t end arcs (code_of t end arcs)
  pub order : InOrder arcs

-- what holds of the arcs of each such code
abbrev pub OfSeen : Grammars → List Read → (List TupleArc → Type 0) → Type 0
OfSeen g seen P = (t : Tuple) (end : Option ℕ) (arcs : List TupleArc) → IsSeen g seen t end arcs → P arcs

-- a right code has all words that were read, and this holds of its final weight and its arcs
abbrev pub OfOne : Grammars → List Read → (Option ℕ → List TupleArc → Type 0) → Type 0
OfOne g seen P = (code : List ℕ) × IsRight (cascades_of g) code × Agrees seen code
    × ((t : Tuple) (end : Option ℕ) (arcs : List TupleArc) → IsCodeOf t end arcs code → InOrder arcs → P end arcs)

-- the seat reads a place of the table
pub record IsHeld {fact : _} (w : Words Grammars Grammars) (seat : Seat Grammars Grammars fact) : Type 0 where
  pub own : IsSeatOf w seat
  pub tag : (view_of seat).tag ≡ fact_of w
  pub reading : IsReading (mode_of seat)
  pub numbers : HaveNumbers (fact_of w)
  pub sound : All IsSound (cascades_of (fact_of w))
  pub some : (t : Tuple) × (end : Option ℕ) × (arcs : List TupleArc) × IsSeen (fact_of w) (seen_of (mode_of seat)) t end arcs

module _ {T : Type 0} where
  -- a seat has read these words more at its place
  abbrev pub read_on : View T → List Read → View T
  read_on v rs = reading v (place_or 0 v.mode) rs

  -- so many at most
  abbrev pub ReadsOn : View T → View T → ℕ → Type 0
  ReadsOn v v' n = (rs : List Read) × (length rs ≤ n) × (v' ≡ read_on v rs)

  -- and has left it with a hit
  abbrev pub LeavesSo : View T → View T → (List Read → Type 0) → Type 0
  LeavesSo v v' Few = (rs : List Read) × (w : ℕ) × Few rs × (v' ≡ left (read_on v rs) (place_or 0 v.mode) w true)
