-- An emptying of a place: what it adds to the log of a seat, and what it answers.
use Rattle.std.specs.Prelude.{◌≡◌, ◌≢◌, ℕ, List, [], ◌∷◌}
use Rattle.place_words.specs.declared.layout.TheConstants.{STATE}
use Rattle.place_words.specs.declared.view.Entry.{Entry}
use Rattle.place_words.specs.declared.view.Entry.TheVariants.{Empty}
use Rattle.place_table.specs.declared.answers.Emptied.{Emptied}
use Rattle.place_table.specs.declared.answers.Emptied.TheVariants.{Done, Was}

-- It is done where a code was shown that no seat read: there the state word was 2^32.
abbrev pub IsEmptied : ℕ → Emptied → List Entry → Type 0
IsEmptied p Done es = es ≡ Empty p STATE ∷ []
IsEmptied p (Was w) es = (w ≢ STATE) × (es ≡ Empty p w ∷ [])
