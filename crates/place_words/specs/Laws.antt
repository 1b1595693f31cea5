-- What holds of lawful words and views, and of every step over them.
use Rattle.std.specs.Prelude.{◌≡◌, ◌≢◌, ℕ, ◌+◌, ◌*◌, ◌<◌, ◌≤◌, List, [], ◌∷◌, ◌++◌, replicate, slice_set}
use mathlib.Core.Option.{some}
use lib.ListN.{get_elem?}
use Rattle.place_words.specs.declared.layout.TheConstants.{CODE_WORDS, PLACE_WORDS}
use Rattle.place_words.specs.declared.view.Read.{Read}
use Rattle.place_words.specs.declared.view.View.{View}
use Rattle.place_words.specs.declared.view.Mode.TheVariants.{Idle, Reading}
use Rattle.place_words.specs.declared.view.Entry.TheVariants.{Write}
use Rattle.place_words.specs.Places.{state_word, word_at, state_of}
use Rattle.place_words.specs.Modes.{lower, place_or, start, upper}
use Rattle.place_words.specs.Steps.{Stepped}
use Rattle.place_words.specs.Rule.{Lawful}

module _ {T : Type 0} (right : T → List ℕ → Type 0) where
  -- words that are all 0, and the view of all seats, are lawful
  abbrev pub StartsLawful : Type 0
  StartsLawful = (tag : T) (n seats : ℕ) → 1 ≤ seats → seats ≤ 64 → Lawful right tag n seats (replicate (PLACE_WORDS * n) 0) (start tag seats ∷ [])

  -- dealing one seat of a view of several takes lawful views to lawful ones
  abbrev pub DealsKeep : Type 0
  DealsKeep = (tag : T) (n seats id : ℕ) (ws : List ℕ) (vs : List (View T)) (v : View T) → Lawful right tag n seats ws vs → get_elem? vs id ≡ some v → v.from + 1 < v.to → v.mode ≡ Idle → v.log ≡ []
      → Lawful right tag n seats ws (slice_set vs id (lower v) ++ upper v ∷ [])

  -- each step takes lawful words and views to lawful ones
  abbrev pub StepsKeep : Type 0
  StepsKeep = (tag : T) (n seats id : ℕ) (ws ws' : List ℕ) (vs vs' : List (View T)) → Lawful right tag n seats ws vs → Stepped right n id ws vs ws' vs' → Lawful right tag n seats ws' vs'

  -- no step changes a word of a place that another seat reads
  abbrev pub ReadersKeep : Type 0
  ReadersKeep = (tag : T) (n seats id : ℕ) (ws ws' : List ℕ) (vs vs' : List (View T)) → Lawful right tag n seats ws vs → Stepped right n id ws vs ws' vs'
      → (j : ℕ) (u : View T) (p : ℕ) (seen : List Read) → j ≢ id → get_elem? vs j ≡ some u → u.mode ≡ Reading p seen
      → (i : ℕ) → i < CODE_WORDS → word_at ws' p i ≡ word_at ws p i

  -- a store is in a place that its own seat claims
  abbrev pub WritersClaim : Type 0
  WritersClaim = (tag : T) (n seats id : ℕ) (ws ws' : List ℕ) (vs vs' : List (View T)) → Lawful right tag n seats ws vs → (s : Stepped right n id ws vs ws' vs')
      → (p i x : ℕ) → s.entry ≡ Write p i x → state_of (state_word ws p) ≡ 2 + s.mine.from

  -- and nothing else changes a word of a place
  abbrev pub WritersAlone : Type 0
  WritersAlone = (n id : ℕ) (ws ws' : List ℕ) (vs vs' : List (View T)) → (s : Stepped right n id ws vs ws' vs')
      → (p i : ℕ) → i < CODE_WORDS → word_at ws' p i ≢ word_at ws p i → (x : ℕ) × (s.entry ≡ Write p i x)

  -- only the n places that were opened are shown or claimed, and a seat is at none but these
  abbrev pub PlacesWithin : Type 0
  PlacesWithin = (tag : T) (n seats : ℕ) (ws : List ℕ) (vs : List (View T)) → Lawful right tag n seats ws vs
      → ((p : ℕ) → state_of (state_word ws p) ≢ 0 → p < n) × ((j : ℕ) (v : View T) → get_elem? vs j ≡ some v → v.mode ≢ Idle → place_or 0 v.mode < n)
