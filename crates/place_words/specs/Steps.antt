-- The eight steps: what each makes of the words and of the view of its seat.
use Rattle.std.specs.Prelude.{◌≡◌, ℕ, ◌+◌, ◌-◌, ◌*◌, ◌<◌, ◌==◌, if◌then◌else◌, List, [], ◌∷◌, ◌++◌, length, slice_index, slice_set, Bool, true, Result, Ok, Err}
use mathlib.Core.Option.{some}
use lib.ListN.{get_elem?}
use Rattle.place_words.specs.declared.layout.TheConstants.{CODE_WORDS, STATE}
use Rattle.place_words.specs.declared.view.View.{View}
use Rattle.place_words.specs.declared.view.Mode.{Mode}
use Rattle.place_words.specs.declared.view.Mode.TheVariants.{Idle, Knocked, Reading, Writing}
use Rattle.place_words.specs.declared.view.Entry.{Entry}
use Rattle.place_words.specs.declared.view.Entry.TheVariants.{Knock, Leave, Read as ReadWord, TakeEmpty, TakeShown, Write, Show, Empty}
use Rattle.place_words.specs.Places.{claim_of, state_index, state_of, word_index}
use Rattle.place_words.specs.Modes.{place_or, seen_of, stored_of, IsAt, IsReading}

-- The words after one entry of seat s, where they were f before. An exchange that finds another word changes none.
abbrev pub after : ℕ → (ℕ → ℕ) → Entry → ℕ → ℕ
after s f (Knock p w) i = if i == state_index p then w + 1 else f i
after s f (Leave p w hit) i = if i == state_index p then w - 1 else f i
after s f (ReadWord p k w) i = f i
after s f (TakeEmpty p w) i = if w == 0 then (if i == state_index p then claim_of s else f i) else f i
after s f (TakeShown p w) i = if w == STATE then (if i == state_index p then claim_of s else f i) else f i
after s f (Write p k v) i = if i == word_index p k then v else f i
after s f (Show p w) i = if i == state_index p then w - (1 + s) * STATE else f i
after s f (Empty p w) i = if w == STATE then (if i == state_index p then 0 else f i) else f i

-- the word that an entry tells: the one that was found, or of a store the one that was stored
abbrev pub word_told : Entry → ℕ
word_told (Knock p w) = w
word_told (Leave p w hit) = w
word_told (ReadWord p k w) = w
word_told (TakeEmpty p w) = w
word_told (TakeShown p w) = w
word_told (Write p k v) = v
word_told (Show p w) = w
word_told (Empty p w) = w

-- the word that its step finds where the words are f; a store finds none
abbrev pub word_there : (ℕ → ℕ) → Entry → ℕ
word_there f (Knock p w) = f (state_index p)
word_there f (Leave p w hit) = f (state_index p)
word_there f (ReadWord p k w) = f (word_index p k)
word_there f (TakeEmpty p w) = f (state_index p)
word_there f (TakeShown p w) = f (state_index p)
word_there f (Write p k v) = v
word_there f (Show p w) = f (state_index p)
word_there f (Empty p w) = f (state_index p)

-- the place that an entry is of
abbrev pub place_of : Entry → ℕ
place_of (Knock p w) = p
place_of (Leave p w hit) = p
place_of (ReadWord p k w) = p
place_of (TakeEmpty p w) = p
place_of (TakeShown p w) = p
place_of (Write p k v) = p
place_of (Show p w) = p
place_of (Empty p w) = p

-- The view of a seat after a step at place p that found w: its mode, and one more entry in its log.
module _ {T : Type 0} where
  abbrev pub moved : View T → Mode → Entry → View T
  moved v m e = record v { mode = m; log = v.log ++ e ∷ [] }

  abbrev pub knocked : View T → ℕ → ℕ → View T
  knocked v p w = moved v (if state_of w == 1 then Reading p [] else Knocked p) (Knock p w)

  abbrev pub left : View T → ℕ → ℕ → Bool → View T
  left v p w hit = moved v Idle (Leave p w hit)

  abbrev pub saw : View T → ℕ → ℕ → ℕ → View T
  saw v p i w = moved v (Reading p (seen_of v.mode ++ record { index = i; word = w } ∷ [])) (ReadWord p i w)

  abbrev pub took_empty : View T → ℕ → ℕ → View T
  took_empty v p w = moved v (if w == 0 then Writing p [] else Idle) (TakeEmpty p w)

  abbrev pub took_shown : View T → ℕ → ℕ → View T
  took_shown v p w = moved v (if w == STATE then Writing p [] else Idle) (TakeShown p w)

  -- here w is the word that was stored
  abbrev pub wrote : View T → ℕ → ℕ → View T
  wrote v p w = moved v (Writing p (stored_of v.mode ++ w ∷ [])) (Write p (length (stored_of v.mode)) w)

  abbrev pub showed : View T → ℕ → ℕ → View T
  showed v p w = moved v Idle (Show p w)

  abbrev pub emptied : View T → ℕ → ℕ → View T
  emptied v p w = moved v Idle (Empty p w)

-- the word that an exchange found, where `Ok` stands for d
abbrev pub match_word : ℕ → Result (Unit {0}) ℕ → ℕ
match_word d (Ok x) = d
match_word d (Err w) = w

module _ {T : Type 0} (right : T → List ℕ → Type 0) where
  -- A seat may make the entry in the view v, and is in the mode m after it. Only a right code is shown.
  abbrev pub Moves : View T → Entry → Mode → Type 0
  Moves v (Knock p w) m = (v.mode ≡ Idle) × (m ≡ (if state_of w == 1 then Reading p [] else Knocked p))
  Moves v (Leave p w hit) m = IsAt v.mode × (place_or p v.mode ≡ p) × (hit ≡ true → IsReading v.mode) × (m ≡ Idle)
  Moves v (ReadWord p i w) m = (v.mode ≡ Reading p (seen_of v.mode)) × (i < CODE_WORDS) × (m ≡ Reading p (seen_of v.mode ++ record { index = i; word = w } ∷ []))
  Moves v (TakeEmpty p w) m = (v.mode ≡ Idle) × (m ≡ (if w == 0 then Writing p [] else Idle))
  Moves v (TakeShown p w) m = (v.mode ≡ Idle) × (m ≡ (if w == STATE then Writing p [] else Idle))
  Moves v (Write p i x) m = (v.mode ≡ Writing p (stored_of v.mode)) × (i ≡ length (stored_of v.mode)) × (i < CODE_WORDS) × (m ≡ Writing p (stored_of v.mode ++ x ∷ []))
  Moves v (Show p w) m = (v.mode ≡ Writing p (stored_of v.mode)) × right v.tag (stored_of v.mode) × (m ≡ Idle)
  Moves v (Empty p w) m = (v.mode ≡ Idle) × (m ≡ Idle)

  -- One step of the seat whose view is the id-th, among n places: it finds what its entry says, and the words and its
  -- view are as its entry makes them. No other view changes.
  pub record Stepped (n id : ℕ) (ws : List ℕ) (vs : List (View T)) (ws' : List ℕ) (vs' : List (View T)) : Type 0 where
    pub mine : View T
    pub entry : Entry
    pub next : Mode
    pub at : get_elem? vs id ≡ some mine
    pub alone : mine.from + 1 ≡ mine.to
    pub within : place_of entry < n
    pub found : word_told entry ≡ word_there (slice_index ws) entry
    pub moves : Moves mine entry next
    pub as_many : length ws' ≡ length ws
    pub words : (i : ℕ) → slice_index ws' i ≡ after mine.from (slice_index ws) entry i
    pub views : vs' ≡ slice_set vs id (moved mine next entry)
