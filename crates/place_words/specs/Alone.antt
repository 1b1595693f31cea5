-- What a seat knows where it is the only one: the words are what its own log leaves.
use Rattle.std.specs.Prelude.{◌≡◌, ◌⊎◌, ℕ, List, [], ◌∷◌, ◌++◌}
use Rattle.place_words.specs.declared.layout.TheConstants.{STATE}
use Rattle.place_words.specs.declared.view.View.{View}
use Rattle.place_words.specs.declared.view.Entry.{Entry}
use Rattle.place_words.specs.Steps.{after, word_told, word_there}

-- the words after these entries of seat s, in turn, where they were f before
abbrev pub replay : ℕ → (ℕ → ℕ) → List Entry → ℕ → ℕ
replay s f [] = f
replay s f (e ∷ es) = replay s (after s f e) es

-- the words that the log of a lone seat leaves, from words that are all 0
abbrev pub left_by : List Entry → ℕ → ℕ
left_by log = replay 0 (λ _. 0) log

-- each entry of a lone seat's log tells the word that the entries before it left
abbrev pub Replays : List Entry → Type 0
Replays log = (before rest : List Entry) (e : Entry) → log ≡ before ++ e ∷ rest → word_told e ≡ word_there (left_by before) e

module _ {T : Type 0} where
  -- a lone seat finds the word i as its log left it
  abbrev pub Lone : View T → ℕ → ℕ → Type 0
  Lone v i w = v.seats ≡ 1 → w ≡ left_by v.log i

  -- and a state word, where it is idle, as that of an empty place or of a shown one with no reader
  abbrev pub Settled : View T → ℕ → Type 0
  Settled v w = v.seats ≡ 1 → (w ≡ 0) ⊎ (w ≡ STATE)
