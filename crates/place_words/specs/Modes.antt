-- What a seat is at, and how many seats are at a place.
use Rattle.std.specs.Prelude.{ℕ, ◌+◌, ◌-◌, ◌==◌, if◌then◌else◌, List, [], ◌∷◌, length}
use Rattle.place_words.specs.declared.view.Read.{Read}
use Rattle.place_words.specs.declared.view.View.{View}
use Rattle.place_words.specs.declared.view.Mode.{Mode}
use Rattle.place_words.specs.declared.view.Mode.TheVariants.{Idle, Knocked, Reading, Writing}

-- the place that the seat is at, or d where it is at none
abbrev pub place_or : ℕ → Mode → ℕ
place_or d Idle = d
place_or d (Knocked p) = p
place_or d (Reading p seen) = p
place_or d (Writing p stored) = p

-- what it has read there
abbrev pub seen_of : Mode → List Read
seen_of (Reading p seen) = seen
seen_of Idle = []
seen_of (Knocked p) = []
seen_of (Writing p stored) = []

-- what it has stored there
abbrev pub stored_of : Mode → List ℕ
stored_of (Writing p stored) = stored
stored_of Idle = []
stored_of (Knocked p) = []
stored_of (Reading p seen) = []

-- how much it has stored, or d where it does not write
abbrev pub stored_or : ℕ → Mode → ℕ
stored_or d (Writing p stored) = length stored
stored_or d Idle = d
stored_or d (Knocked p) = d
stored_or d (Reading p seen) = d

-- Knocked or Reading: the seat is counted in the state word of its place
abbrev pub IsAt : Mode → Type 0
IsAt Idle = ⊥
IsAt (Knocked p) = Unit {0}
IsAt (Reading p seen) = Unit {0}
IsAt (Writing p stored) = ⊥

abbrev pub IsReading : Mode → Type 0
IsReading (Reading p seen) = Unit {0}
IsReading Idle = ⊥
IsReading (Knocked p) = ⊥
IsReading (Writing p stored) = ⊥

abbrev pub IsWriting : Mode → Type 0
IsWriting (Writing p stored) = Unit {0}
IsWriting Idle = ⊥
IsWriting (Knocked p) = ⊥
IsWriting (Reading p seen) = ⊥

-- 1 where such a seat is counted at place p, else 0
abbrev pub counted_at : ℕ → Mode → ℕ
counted_at p (Knocked q) = if q == p then 1 else 0
counted_at p (Reading q seen) = if q == p then 1 else 0
counted_at p Idle = 0
counted_at p (Writing q stored) = 0

module _ {T : Type 0} where
  -- how many are counted at place p
  abbrev pub readers : ℕ → List (View T) → ℕ
  readers p [] = 0
  readers p (v ∷ vs) = counted_at p v.mode + readers p vs

  -- how many seat numbers the ranges of these views have
  abbrev pub widths : List (View T) → ℕ
  widths [] = 0
  widths (v ∷ vs) = (v.to - v.from) + widths vs

  -- an idle view with nothing in its log, of the seats from a up to b
  abbrev pub idle : T → ℕ → ℕ → ℕ → View T
  idle tag seats a b = record { from = a; to = b; tag = tag; seats = seats; mode = Idle; log = [] }

  -- the one view of all seats, before they are dealt
  abbrev pub start : T → ℕ → View T
  start tag seats = record { from = 0; to = seats; tag = tag; seats = seats; mode = Idle; log = [] }

  -- a view is dealt into that of its first seat and that of the others
  abbrev pub lower : View T → View T
  lower v = record v { to = v.from + 1 }

  abbrev pub upper : View T → View T
  upper v = record v { from = v.from + 1 }
