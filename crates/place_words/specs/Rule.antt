-- The rule over the words of the places and the views of the seats. It holds between any two steps.
use Rattle.std.specs.Prelude.{◌≡◌, ◌≢◌, ℕ, ◌+◌, ◌*◌, ◌<◌, ◌≤◌, List, [], length}
use mathlib.Core.Option.{some}
use lib.ListN.{get_elem?}
use Rattle.place_words.specs.declared.layout.TheConstants.{CODE_WORDS, PLACE_WORDS}
use Rattle.place_words.specs.declared.view.View.{View}
use Rattle.place_words.specs.declared.view.Mode.{Mode}
use Rattle.place_words.specs.declared.view.Mode.TheVariants.{Idle, Knocked, Reading, Writing}
use Rattle.place_words.specs.Places.{state_word, state_of, count_of, Begins, Saw}
use Rattle.place_words.specs.Modes.{readers, widths}
use Rattle.place_words.specs.History.{History}

-- What the mode of seat s says of the words of n places: a reader's place is shown, and what it read stands there;
-- a writer's place is claimed by it, and begins with what it stored.
abbrev pub Stands : List ℕ → ℕ → ℕ → Mode → Type 0
Stands ws n s Idle = Unit {0}
Stands ws n s (Knocked p) = p < n
Stands ws n s (Reading p seen) = (p < n) × (state_of (state_word ws p) ≡ 1) × Saw ws p seen
Stands ws n s (Writing p stored) = (p < n) × (state_of (state_word ws p) ≡ 2 + s) × (length stored ≤ CODE_WORDS) × Begins ws p stored

-- a seat writes at place p, and st is the state that its claim gives
abbrev pub Claimed : {T : Type 0} → List (View T) → ℕ → ℕ → Type 0
Claimed {T} vs p st = (j : ℕ) × (v : View T) × (stored : List ℕ) × (get_elem? vs j ≡ some v) × (st ≡ 2 + v.from) × (v.mode ≡ Writing p stored)

-- seat k is in the range of some view
abbrev pub Covered : {T : Type 0} → List (View T) → ℕ → Type 0
Covered {T} vs k = (j : ℕ) × (v : View T) × (get_elem? vs j ≡ some v) × (v.from ≤ k) × (k < v.to)

-- what the rule says of one view
pub record LawfulView {T : Type 0} (tag : T) (n seats : ℕ) (ws : List ℕ) (v : View T) : Type 0 where
  pub range : (v.from < v.to) × (v.to ≤ seats)
  pub same_tag : v.tag ≡ tag
  pub same_seats : v.seats ≡ seats
  -- a view of several seats has done nothing yet
  pub undealt : v.from + 1 ≢ v.to → (v.mode ≡ Idle) × (v.log ≡ [])
  pub stands : Stands ws n v.from v.mode

pub record Lawful {T : Type 0} (right : T → List ℕ → Type 0) (tag : T) (n seats : ℕ) (ws : List ℕ) (vs : List (View T)) : Type 0 where
  pub all_words : length ws ≡ PLACE_WORDS * n
  pub some_seats : (1 ≤ seats) × (seats ≤ 64)
  -- the count of a place is the number of views that are Knocked or Reading there
  pub counts : (p : ℕ) → p < n → count_of (state_word ws p) ≡ readers p vs
  -- a claim is that of a seat that writes there; no two do, since by `Stands` the state would have both their numbers
  pub claims : (p : ℕ) → p < n → 2 ≤ state_of (state_word ws p) → Claimed vs p (state_of (state_word ws p))
  -- a shown place begins with a right code
  pub shown : (p : ℕ) → p < n → state_of (state_word ws p) ≡ 1 → (code : List ℕ) × right tag code × Begins ws p code
  pub each : (j : ℕ) (v : View T) → get_elem? vs j ≡ some v → LawfulView tag n seats ws v
  -- no seat is in the ranges of two views, and each is in one
  pub apart : (i j : ℕ) (v w : View T) (k : ℕ) → get_elem? vs i ≡ some v → get_elem? vs j ≡ some w → (v.from ≤ k) × (k < v.to) → (w.from ≤ k) × (k < w.to) → i ≡ j
  pub covers : (k : ℕ) → k < seats → Covered vs k
  pub total : widths vs ≡ seats
  -- the logs account for the words; so where one seat was opened, all words are what its log leaves
  pub history : History seats ws vs
