-- A look for a key: what it adds to the log of a seat, and what it answers.
-- On the ways of the key in order the seat knocks. Where a code is shown, it reads the code's key. Where that is the
-- key, the look ends there as Shown, and the seat leaves with a hit. From every other way it leaves and goes on.
use Rattle.std.specs.Prelude.{◌≡◌, ◌≢◌, ℕ, ◌+◌, ◌<◌, ◌≤◌, List, [], ◌∷◌, ◌++◌, length, get_or, Contains, take, drop, true, false}
use Rattle.place_words.specs.declared.view.Read.{Read}
use Rattle.place_words.specs.declared.view.View.{View}
use Rattle.place_words.specs.declared.view.Entry.{Entry}
use Rattle.place_words.specs.declared.view.Entry.TheVariants.{Knock, Leave}
use Rattle.place_words.specs.Places.{Agrees, state_of}
use Rattle.place_table.specs.declared.answers.Found.{Found}
use Rattle.place_table.specs.declared.answers.Found.TheVariants.{Other, Claimed, Empty}
use Rattle.place_table.specs.declared.answers.Look.{Look}
use Rattle.place_table.specs.declared.answers.Look.TheVariants.{Shown, Absent}
use Rattle.place_table.specs.declared.answers.Find.{Find}
use Rattle.place_table.specs.declared.answers.Find.TheVariants.{Holding, Absent as NotFound}
use Rattle.place_table.specs.Entries.{Adds, FewReads, holds, reads_of, seen_from}

-- the key of a code: its words 1 to 6
abbrev pub key_in : List ℕ → List ℕ
key_in code = take 6 (drop 1 code)

-- the words 1 to 6 are among what was read, and are this key
abbrev pub Tells : List Read → List ℕ → Type 0
Tells rs key = (length key ≡ 6) × ((k : ℕ) → k < 6 → Contains rs (record { index = k + 1; word = get_or key k 0 }))

-- the way p was found so, and the look goes on
abbrev pub Passed : List ℕ → ℕ → Found → List Entry → Type 0
Passed key p (Other other) es = (w : ℕ) × (w' : ℕ) × (rs : List Read) × (state_of w ≡ 1) × Tells rs other × (other ≢ key) × (es ≡ Knock p w ∷ (reads_of p rs ++ Leave p w' false ∷ []))
Passed key p (Claimed s) es = (w : ℕ) × (w' : ℕ) × (state_of w ≡ 2 + s) × (es ≡ Knock p w ∷ Leave p w' false ∷ [])
Passed key p Empty es = (w : ℕ) × (w' : ℕ) × (state_of w ≡ 0) × (es ≡ Knock p w ∷ Leave p w' false ∷ [])

-- so were these ways, in order
abbrev pub AllPassed : List ℕ → List ℕ → List Found → List Entry → Type 0
AllPassed key [] [] es = es ≡ []
AllPassed key (p ∷ ps) (f ∷ fs) es = (a : List Entry) × (b : List Entry) × Passed key p f a × AllPassed key ps fs b × (es ≡ a ++ b)
AllPassed key [] (f ∷ fs) es = ⊥
AllPassed key (p ∷ ps) [] es = ⊥

-- The ways before the place p were passed, and the key was read there, among these words. The seat has not left yet.
pub record Begun (key ways : List ℕ) (p : ℕ) (rs : List Read) (es : List Entry) : Type 0 where
  pub k : ℕ
  pub found : List Found
  pub before : List Entry
  pub w : ℕ
  pub within : k < length ways
  pub at : get_or ways k 0 ≡ p
  pub passed : AllPassed key (take k ways) found before
  pub shown : state_of w ≡ 1
  pub told : Tells rs key
  pub entries : es ≡ before ++ Knock p w ∷ reads_of p rs

-- a look that is Shown at the place p, where these words were read
pub record ShownLook (key ways : List ℕ) (p : ℕ) (rs : List Read) (es : List Entry) : Type 0 where
  pub begun : List Entry
  pub w : ℕ
  pub begins : Begun key ways p rs begun
  pub entries : es ≡ begun ++ Leave p w true ∷ []

-- a look that is Absent: what was found on each of the n ways, and Empty past them
pub record AbsentLook (key ways : List ℕ) (found : List Found) (n : ℕ) (es : List Entry) : Type 0 where
  pub count : n ≡ length ways
  pub passed : AllPassed key ways (take n found) es
  pub past : (k : ℕ) → n ≤ k → k < 4 → get_or found k Empty ≡ Empty

module _ {T : Type 0} (right : T → List ℕ → Type 0) where
  -- What `look` answers. The code that it copied is right and has the key, and these are the words that it read, each once.
  abbrev pub IsLook : T → List ℕ → List ℕ → List ℕ → Look → List Entry → Type 0
  IsLook tag key ways into (Shown n) es = (p : ℕ) × ShownLook key ways p (seen_from 0 (take n into)) es × (n ≤ 2048) × right tag (take n into) × (key_in (take n into) ≡ key)
  IsLook tag key ways into (Absent found n) es = AbsentLook key ways found n es

  -- The seat reads the place p, and has read these words there, the first seven of a right code. They tell the key, so each right code
  -- that has them has the key.
  pub record Holds (key : List ℕ) (p : ℕ) (seven : List ℕ) (v v' : View T) (es : List Entry) : Type 0 where
    pub view : v' ≡ holds v p es (seen_from 0 seven)
    pub code : (code : List ℕ) × right v.tag code × Agrees (seen_from 0 seven) code
    pub told : Tells (seen_from 0 seven) key
    pub own : (code : List ℕ) → right v.tag code → Agrees (seen_from 0 seven) code → key_in code ≡ key

  -- What `find` answers: it is a look, but for the last leave where the key was found. On no way are more than seven words read.
  abbrev pub IsFind : List ℕ → List ℕ → List ℕ → View T → View T → Find → Type 0
  IsFind key ways seven v v' (Holding p) = (es : List Entry) × Begun key ways p (seen_from 0 seven) es × Holds key p seven v v' es × FewReads 7 0 es
  IsFind key ways seven v v' (NotFound found n) = Adds v v' (λ es. AbsentLook key ways found n es × FewReads 7 0 es)

  -- so it is for seven words
  abbrev pub Finds : List ℕ → List ℕ → View T → View T → Find → Type 0
  Finds key ways v v' result = (seven : List ℕ) × (length seven ≡ 7) × IsFind key ways seven v v' result
