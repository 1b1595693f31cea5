-- The labels of a string.
use Rattle.std.specs.Prelude.{Bool, ℕ, ◌≡◌, ◌<◌, ◌≤◌, ◌&&◌, ◌||◌, not, nat_eq, true, List, [], ◌∷◌, ◌++◌, length, Option, Some, None, if◌then◌else◌, codes, ◌⊎◌}
use Rattle.text_forms.specs.Bytes.{is_digit, is_letter, is_of, from_to, Run}
use Rattle.thrax_lexer.specs.Bytes.{is_inside}
use Rattle.text_forms.specs.Numbers.{value}
use Rattle.text_forms.specs.Steps.{Many}
use Rattle.text_forms.specs.declared.bytes.ByteKind.{ByteKind}
use Rattle.text_forms.specs.declared.bytes.ByteKind.TheVariants.{Digit, HexDigit}
use Rattle.thrax_lexer.specs.declared.bytes.Inside.TheVariants as inner

-- any byte but 0, LF, '"', '\', '[' and ']'
abbrev pub is_plain : ℕ → Bool
is_plain b = not (nat_eq b 0 || nat_eq b 10 || nat_eq b 34 || nat_eq b 92 || nat_eq b 91 || nat_eq b 93)

-- the label of a byte behind '\'
abbrev pub escaped : ℕ → Option ℕ
escaped b =
    if nat_eq b 110 then Some 10 else
    if nat_eq b 116 then Some 9 else
    if nat_eq b 114 then Some 13 else
    if from_to 33 126 b && not (is_letter b || is_digit b) then Some b else None

-- x is one to so many digits, and n is the byte that they say, which isn't 0
pub record Numeral (kind : ByteKind) (base most : ℕ) (x : List ℕ) (n : ℕ) : Type 0 where
  pub digits : Run (is_of kind) x x []
  pub some : 0 < length x
  pub few : length x ≤ most
  pub says : n ≡ value base x
  pub low : 0 < n
  pub high : n < 256

-- a byte by its decimal digits, or by hexadecimal ones behind "0x"
pub data NamedByte : List ℕ → ℕ → Type 0 where
  by_decimal : {x : List ℕ} {n : ℕ} → Numeral Digit 10 3 x n → NamedByte x n
  by_hexadecimal : {x y : List ℕ} {n : ℕ} → x ≡ 48 ∷ 120 ∷ y → Numeral HexDigit 16 2 y n → NamedByte x n

-- the label that a text in brackets names: one of the two marks, or a byte
abbrev pub Named : List ℕ → ℕ → Type 0
Named x n = ((x ≡ codes "BOS") × (n ≡ 256)) ⊎ ((x ≡ codes "EOS") × (n ≡ 257)) ⊎ NamedByte x n

-- the front of a text before the rest is a piece of a string, with this label
pub data Label : List ℕ → ℕ → List ℕ → Type 0 where
  plain : {b : ℕ} {a : List ℕ} → is_plain b ≡ true → Label (b ∷ a) b a
  escape : {b d n : ℕ} {a : List ℕ} → b ≡ 92 → escaped d ≡ Some n → Label (b ∷ d ∷ a) n a
  bracket : {b n : ℕ} {a x c : List ℕ} → b ≡ 91 → Run (is_inside inner.Brackets) a x (93 ∷ c) → Named x n → Label (b ∷ a) n c

-- the whole text is pieces, with these labels
abbrev pub Labels : List ℕ → List ℕ → Type 0
Labels text labels = Many Label text labels []

-- before the rest a text has pieces and a '"'
pub record Closed (text pieces rest : List ℕ) : Type 0 where
  pub split : text ≡ pieces ++ 34 ∷ rest
  pub labels : (ns : List ℕ) × Labels pieces ns
