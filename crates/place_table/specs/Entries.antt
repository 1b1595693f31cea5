-- Runs of entries in the log of a seat, and the views after them.
use Rattle.std.specs.Prelude.{◌≡◌, ℕ, suc, ◌+◌, ◌≤◌, List, [], ◌∷◌, ◌++◌}
use Rattle.place_words.specs.declared.view.Read.{Read}
use Rattle.place_words.specs.declared.view.View.{View}
use Rattle.place_words.specs.declared.view.Mode.TheVariants.{Idle, Reading, Writing}
use Rattle.place_words.specs.declared.view.Entry.{Entry}
use Rattle.place_words.specs.declared.view.Entry.TheVariants.{Knock, Leave, Read as ReadWord, TakeEmpty, TakeShown, Write, Show, Empty}
use Rattle.place_words.specs.Modes.{seen_of}

-- the entries of what was read at the place p
abbrev pub reads_of : ℕ → List Read → List Entry
reads_of p [] = []
reads_of p (r ∷ rs) = ReadWord p r.index r.word ∷ reads_of p rs

-- these words, read in order, the first at the index i
abbrev pub seen_from : ℕ → List ℕ → List Read
seen_from i [] = []
seen_from i (x ∷ xs) = record { index = i; word = x } ∷ seen_from (i + 1) xs

-- these words, written in order at the place p, the first at the index i
abbrev pub writes_from : ℕ → ℕ → List ℕ → List Entry
writes_from p i [] = []
writes_from p i (x ∷ xs) = Write p i x ∷ writes_from p (i + 1) xs

-- a code is written at the place p and shown; w is the state word that this found
abbrev pub fills : ℕ → List ℕ → ℕ → List Entry
fills p code w = writes_from p 0 code ++ Show p w ∷ []

-- how many reads there are
abbrev pub reads_in : List Entry → ℕ
reads_in [] = 0
reads_in (ReadWord p i w ∷ es) = suc (reads_in es)
reads_in (Knock p w ∷ es) = reads_in es
reads_in (Leave p w hit ∷ es) = reads_in es
reads_in (TakeEmpty p w ∷ es) = reads_in es
reads_in (TakeShown p w ∷ es) = reads_in es
reads_in (Write p i w ∷ es) = reads_in es
reads_in (Show p w ∷ es) = reads_in es
reads_in (Empty p w ∷ es) = reads_in es

-- how many reads stand one after the other, up to this entry, where m stand before it
abbrev pub read_run : ℕ → Entry → ℕ
read_run m (ReadWord p i w) = suc m
read_run m (Knock p w) = 0
read_run m (Leave p w hit) = 0
read_run m (TakeEmpty p w) = 0
read_run m (TakeShown p w) = 0
read_run m (Write p i w) = 0
read_run m (Show p w) = 0
read_run m (Empty p w) = 0

-- never more than n reads stand one after the other, where m stand before these
abbrev pub FewReads : ℕ → ℕ → List Entry → Type 0
FewReads n m [] = Unit {0}
FewReads n m (e ∷ es) = (read_run m e ≤ n) × FewReads n (read_run m e) es

module _ {T : Type 0} where
  -- a seat has read these at the place p
  abbrev pub reading : View T → ℕ → List Read → View T
  reading v p rs = record v { mode = Reading p (seen_of v.mode ++ rs); log = v.log ++ reads_of p rs }

  -- it has written these words there
  abbrev pub writing : View T → ℕ → List ℕ → View T
  writing v p xs = record v { mode = Writing p xs; log = v.log ++ writes_from p 0 xs }

  -- it is idle after these entries
  abbrev pub logged : View T → List Entry → View T
  logged v es = record v { mode = Idle; log = v.log ++ es }

  -- it still reads the place p after these entries, and has seen these words there
  abbrev pub holds : View T → ℕ → List Entry → List Read → View T
  holds v p es rs = record v { mode = Reading p rs; log = v.log ++ es }

  -- the seat is idle after the call, and entries of this kind are all that came into its log
  abbrev pub Adds : View T → View T → (List Entry → Type 0) → Type 0
  Adds v v' Kind = (es : List Entry) × Kind es × (v' ≡ logged v es)
