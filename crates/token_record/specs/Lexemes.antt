-- Lexemes of token text. Blanks stand before each.
use Rattle.std.specs.Prelude.{Bool, true, false, ℕ, ◌≡◌, ◌<◌, ◌||◌, not, nat_eq, List, [], ◌∷◌, length, Option, Some, None, if◌then◌else◌}
use Rattle.text_forms.specs.Bytes.{Run, is_blank, is_letter, is_wordy}
use Rattle.text_forms.specs.Steps.{Many}

-- what follows the blanks at the front
abbrev pub unblanked : List ℕ → List ℕ
unblanked [] = []
unblanked (b ∷ a) = if is_blank b then unblanked a else b ∷ a

-- a byte of its own, before the rest
abbrev pub Sign : ℕ → List ℕ → List ℕ → Type 0
Sign n a c = unblanked a ≡ n ∷ c

abbrev pub starts_word : List ℕ → Bool
starts_word [] = false
starts_word (b ∷ w) = is_letter b || nat_eq b 95

-- a letter or '_' and then letters, digits and '_', as long as they go
pub record Word (a w c : List ℕ) : Type 0 where
  pub run : Run is_wordy (unblanked a) w c
  pub starts : starts_word w ≡ true

-- one or more letters, digits and '_', as long as they go
pub record Bare (a w c : List ℕ) : Type 0 where
  pub run : Run is_wordy (unblanked a) w c
  pub some : 0 < length w

-- any byte but 0, '"' and '\'
abbrev pub is_plain : ℕ → Bool
is_plain b = not (nat_eq b 0 || nat_eq b 34 || nat_eq b 92)

-- '"' or '\' behind a '\'
abbrev pub escaped : List ℕ → Option (ℕ × List ℕ)
escaped [] = None
escaped (b ∷ a) = if nat_eq b 34 || nat_eq b 92 then Some (b, a) else None

-- a byte of a string, as it stands or behind a '\', and the rest
abbrev pub string_byte : List ℕ → Option (ℕ × List ℕ)
string_byte [] = None
string_byte (b ∷ a) = if is_plain b then Some (b, a) else if nat_eq b 92 then escaped a else None

abbrev pub StringByte : List ℕ → ℕ → List ℕ → Type 0
StringByte a b c = string_byte a ≡ Some (b, c)

-- bytes of a string and the quote that closes it
abbrev pub Closed : List ℕ → List ℕ → List ℕ → Type 0
Closed a v c = Many StringByte a v (34 ∷ c)

-- a value: a string or a bare one
pub data Value (a v c : List ℕ) : Type 0 where
  in_quotes : (q : List ℕ) → Sign 34 a q → Closed q v c → Value a v c
  bare : Bare a v c → Value a v c
