-- All steps that were taken, in the one order in which they were taken.
use Rattle.std.specs.Prelude.{◌≡◌, ℕ, ◌<◌, ◌≤◌, ◌==◌, if◌then◌else◌, List, [], ◌∷◌, ◌++◌, slice_index, All}
use mathlib.Core.Option.{some}
use lib.ListN.{get_elem?}
use Rattle.place_words.specs.declared.view.View.{View}
use Rattle.place_words.specs.declared.view.Entry.{Entry}
use Rattle.place_words.specs.Steps.{after, word_told, word_there}

-- a step: the number of its seat, and its entry
abbrev pub Turn : Type 0
Turn = ℕ × Entry

-- the words after these steps, where they were f before
abbrev pub played : (ℕ → ℕ) → List Turn → ℕ → ℕ
played f [] = f
played f (t ∷ ts) = played (after t.0 f t.1) ts

-- the words that these steps leave, from words that are all 0
abbrev pub left_by_all : List Turn → ℕ → ℕ
left_by_all turns = played (λ _. 0) turns

-- the entries of seat s among them
abbrev pub log_of : ℕ → List Turn → List Entry
log_of s [] = []
log_of s (t ∷ ts) = if t.0 == s then t.1 ∷ log_of s ts else log_of s ts

-- The logs of the seats, put together in one order, account for the words: each entry tells the word that the steps
-- before it left, and the words are what all of them left.
pub record History {T : Type 0} (seats : ℕ) (ws : List ℕ) (vs : List (View T)) : Type 0 where
  pub turns : List Turn
  -- only seats that were opened take steps
  pub dealt : All (λ t. t.0 < seats) turns
  pub in_turn : (before rest : List Turn) (t : Turn) → turns ≡ before ++ t ∷ rest → word_told t.1 ≡ word_there (left_by_all before) t.1
  pub words : (i : ℕ) → slice_index ws i ≡ left_by_all turns i
  -- the steps of a seat are the log of its view; where a view has several seats, none of them took a step
  pub logs : (j : ℕ) (v : View T) → get_elem? vs j ≡ some v → (s : ℕ) → v.from ≤ s → s < v.to → log_of s turns ≡ v.log
