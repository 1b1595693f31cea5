-- The words of the places, and what the words of one place say.
use Rattle.std.specs.Prelude.{◌≡◌, ℕ, ◌+◌, ◌*◌, ◌/◌, ◌%◌, ◌<◌, List, length, slice_index}
use mathlib.Core.Option.{some}
use lib.ListN.{get_elem?}
use Rattle.place_words.specs.declared.layout.TheConstants.{CODE_WORDS, PLACE_WORDS, STATE}
use Rattle.place_words.specs.declared.view.Read.{Read}

-- The places lie one after the other, each with its state word first and the words of a code behind it.
abbrev pub state_index : ℕ → ℕ
state_index p = PLACE_WORDS * p

abbrev pub word_index : ℕ → ℕ → ℕ
word_index p i = PLACE_WORDS * p + 1 + i

-- the state word of place p
abbrev pub state_word : List ℕ → ℕ → ℕ
state_word ws p = slice_index ws (state_index p)

-- the word i of place p
abbrev pub word_at : List ℕ → ℕ → ℕ → ℕ
word_at ws p i = slice_index ws (word_index p i)

-- A state word is a state times `STATE`, and a count of readers. The state is 0 where the place is empty, 1 where a
-- code is shown there, and 2 + s where seat s claims it.
abbrev pub state_of : ℕ → ℕ
state_of w = w / STATE

abbrev pub count_of : ℕ → ℕ
count_of w = w % STATE

-- the state word of a place that seat s claims and where nobody is counted
abbrev pub claim_of : ℕ → ℕ
claim_of s = (2 + s) * STATE

-- the words of place p begin with these
abbrev pub Begins : List ℕ → ℕ → List ℕ → Type 0
Begins ws p code = (k : ℕ) → k < length code → word_at ws p k ≡ slice_index code k

-- each of these was read at place p and stands there still
abbrev pub Saw : List ℕ → ℕ → List Read → Type 0
Saw ws p seen = (k : ℕ) (r : Read) → get_elem? seen k ≡ some r → (r.index < CODE_WORDS) × (word_at ws p r.index ≡ r.word)

-- what was read is in the code, as far as the code goes
abbrev pub Agrees : List Read → List ℕ → Type 0
Agrees seen code = (k : ℕ) (r : Read) → get_elem? seen k ≡ some r → r.index < length code → slice_index code r.index ≡ r.word
