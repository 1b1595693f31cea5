-- What each step tells its caller, in the form of the plays of `atomic_table`: of the step, the seat before it, the
-- word found (of a store, the word stored) and the seat after it. The base's seat holds no slots, before and after.
use Rattle.std.specs.Prelude.{◌≡◌, ℕ, ◌<◌, List, length, Bool}
use Rattle.atomic_table.specs.Table.{Me, Step}
use Rattle.place_words.specs.declared.layout.TheConstants.{CODE_WORDS}
use Rattle.place_words.specs.declared.view.View.{View}
use Rattle.place_words.specs.Places.{state_index, word_index, Agrees}
use Rattle.place_words.specs.Modes.{seen_of, stored_of}
use Rattle.place_words.specs.Steps.{knocked, left, saw, took_empty, took_shown, wrote, showed, emptied}
use Rattle.place_words.specs.Alone.{Lone, Settled}

module _ {T : Type 0} where
  abbrev pub knocks : Step (Unit {0}) → Me (Unit {0}) (View T) → ℕ → Me (Unit {0}) (View T) → Type 0
  knocks st m w m' = (m'.1 ≡ m.1) × ((p : ℕ) → st.word ≡ state_index p → m'.0 ≡ knocked m.0 p w) × Lone m.0 st.word w × Settled m.0 w

  abbrev pub leaves : Bool → Step (Unit {0}) → Me (Unit {0}) (View T) → ℕ → Me (Unit {0}) (View T) → Type 0
  leaves hit st m w m' = (m'.1 ≡ m.1) × ((p : ℕ) → st.word ≡ state_index p → m'.0 ≡ left m.0 p w hit) × Lone m.0 st.word w

  -- all that was read so far is in one right code
  abbrev pub reads : (T → List ℕ → Type 0) → Step (Unit {0}) → Me (Unit {0}) (View T) → ℕ → Me (Unit {0}) (View T) → Type 0
  reads right st m w m' = (m'.1 ≡ m.1) × ((p i : ℕ) → i < CODE_WORDS → st.word ≡ word_index p i → m'.0 ≡ saw m.0 p i w) × Lone m.0 st.word w
      × ((code : List ℕ) × right m.0.tag code × Agrees (seen_of m'.0.mode) code)

  abbrev pub takes_empty : Step (Unit {0}) → Me (Unit {0}) (View T) → ℕ → Me (Unit {0}) (View T) → Type 0
  takes_empty st m w m' = (m'.1 ≡ m.1) × ((p : ℕ) → st.word ≡ state_index p → m'.0 ≡ took_empty m.0 p w) × Lone m.0 st.word w × Settled m.0 w

  abbrev pub takes_shown : Step (Unit {0}) → Me (Unit {0}) (View T) → ℕ → Me (Unit {0}) (View T) → Type 0
  takes_shown st m w m' = (m'.1 ≡ m.1) × ((p : ℕ) → st.word ≡ state_index p → m'.0 ≡ took_shown m.0 p w) × Lone m.0 st.word w × Settled m.0 w

  abbrev pub writes : Step (Unit {0}) → Me (Unit {0}) (View T) → ℕ → Me (Unit {0}) (View T) → Type 0
  writes st m w m' = (m'.1 ≡ m.1) × ((p : ℕ) → st.word ≡ word_index p (length (stored_of m.0.mode)) → length (stored_of m.0.mode) < CODE_WORDS → m'.0 ≡ wrote m.0 p w)

  abbrev pub shows : Step (Unit {0}) → Me (Unit {0}) (View T) → ℕ → Me (Unit {0}) (View T) → Type 0
  shows st m w m' = (m'.1 ≡ m.1) × ((p : ℕ) → st.word ≡ state_index p → m'.0 ≡ showed m.0 p w) × Lone m.0 st.word w

  abbrev pub empties : Step (Unit {0}) → Me (Unit {0}) (View T) → ℕ → Me (Unit {0}) (View T) → Type 0
  empties st m w m' = (m'.1 ≡ m.1) × ((p : ℕ) → st.word ≡ state_index p → m'.0 ≡ emptied m.0 p w) × Lone m.0 st.word w × Settled m.0 w
