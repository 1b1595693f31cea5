-- What a caller that stops at a place adds to the log of its seat, and where its seat stays.
use Rattle.std.specs.Prelude.{◌≡◌, ◌≢◌, ◌⊎◌, ℕ, ◌==◌, if◌then◌else◌, List, [], ◌∷◌, ◌++◌}
use Rattle.place_words.specs.declared.layout.TheConstants.{STATE}
use Rattle.place_words.specs.declared.view.Entry.{Entry}
use Rattle.place_words.specs.declared.view.Entry.TheVariants.{Knock, TakeEmpty, TakeShown}
use Rattle.place_words.specs.declared.view.Mode.{Mode}
use Rattle.place_words.specs.declared.view.Mode.TheVariants.{Knocked, Reading, Writing}
use Rattle.place_words.specs.declared.view.View.{View}
use Rattle.place_words.specs.Places.{state_of}
use Rattle.place_words.specs.Seats.{IsSeatOf, IsStillSeat, view_of}
use Rattle.place_table.specs.Tables.{words_of}
use Rattle.shared_cascade.specs.declared.callers.Caller.{Caller}
use Rattle.shared_cascade.specs.declared.shared.Shared.{Shared}
use Rattle.shared_cascade.specs.declared.stalling.How.{How}
use Rattle.shared_cascade.specs.declared.stalling.How.TheVariants.{Claiming, Knocking}
use Rattle.shared_cascade.specs.declared.stalling.Stalled.{Stalled}

-- the place was empty and was taken
abbrev pub TookEmpty : ℕ → List Entry → Type 0
TookEmpty p es = es ≡ TakeEmpty p 0 ∷ []

-- it was not empty; then a code was shown there that no seat read, and it was taken
abbrev pub TookShown : ℕ → List Entry → Type 0
TookShown p es = (w : ℕ) × (w ≢ 0) × (es ≡ TakeEmpty p w ∷ TakeShown p STATE ∷ [])

-- it was not empty; then no such code was shown there; and then the seat knocked, and found this state word
abbrev pub KnockedAfter : ℕ → ℕ → List Entry → Type 0
KnockedAfter p found es = (first : ℕ) × (second : ℕ) × (first ≢ 0) × (second ≢ STATE) × (es ≡ TakeEmpty p first ∷ TakeShown p second ∷ Knock p found ∷ [])

-- The caller claims the place exactly where one of the two exchanges took it. Where both failed it knocked, and tells what it found.
abbrev pub IsStall : ℕ → How → List Entry → Type 0
IsStall p Claiming es = TookEmpty p es ⊎ TookShown p es
IsStall p (Knocking w) es = KnockedAfter p w es

-- what its seat is at from then on
abbrev pub stays_at : ℕ → How → Mode
stays_at p Claiming = Writing p []
stays_at p (Knocking w) = if state_of w == 1 then Reading p [] else Knocked p

-- the view of a seat that stopped there with these entries
abbrev pub stopped : {T : Type 0} → View T → ℕ → How → List Entry → View T
stopped v p how es = record v { mode = stays_at p how; log = v.log ++ es }

-- The caller c has stalled at the place p: these entries are all that came into its log. It keeps its table and all that it has but for its seat.
pub record HasStalled (s : Shared) (c : Caller) (p : ℕ) (es : List Entry) (x : Stalled) : Type 0 where
  pub together : IsSeatOf (words_of s.table) x.caller.seat
  pub seat : IsStillSeat c.seat x.caller.seat
  pub view : view_of x.caller.seat ≡ stopped (view_of c.seat) p x.how es
  pub kept : x.caller ≡ record c { seat = x.caller.seat }
