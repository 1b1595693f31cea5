-- What clauses see of a seat and of the words that it steps on.
use Rattle.std.specs.Prelude.{◌≡◌, ℕ}
use Rattle.place_words.specs.declared.view.View.{View}
use Rattle.place_words.specs.declared.view.Mode.{Mode}
use Rattle.place_words.specs.declared.words.Seat.{Seat}
use Rattle.place_words.specs.declared.words.Words.{Words}

module _ {F T : Type 0} where
  -- what the seat knows
  abbrev pub view_of : {fact : _} → Seat F T fact → View T
  view_of s = s.base.me.0

  -- what it is at
  abbrev pub mode_of : {fact : _} → Seat F T fact → Mode
  mode_of s = s.base.me.0.mode

  -- its number among the seats that were opened with it
  abbrev pub number_of : {fact : _} → Seat F T fact → ℕ
  number_of s = s.number

  -- the seat was opened with these words
  abbrev pub IsSeatOf : {fact : _} → Words F T → Seat F T fact → Type 0
  IsSeatOf w s = s.base.table_id ≡ w.table.shared.table_id

  -- a step leaves the seat with its words and its number
  abbrev pub IsStillSeat : {fact : _} → Seat F T fact → Seat F T fact → Type 0
  IsStillSeat s s' = (s'.base.table_id ≡ s.base.table_id) × (s'.number ≡ s.number)

  abbrev pub places_of : Words F T → ℕ
  places_of w = w.about.places

  abbrev pub fact_of : Words F T → F
  fact_of w = w.about.fact
