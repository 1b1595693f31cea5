-- Classes of bytes, and runs of them.
use Rattle.std.specs.Prelude.{Bool, true, false, ℕ, ◌≡◌, ◌&&◌, ◌||◌, nat_eq, nat_le, List, [], ◌∷◌, ◌++◌}
use Rattle.std.specs.List.{AllByRecursion}
use Rattle.text_forms.specs.declared.bytes.ByteKind.{ByteKind}
use Rattle.text_forms.specs.declared.bytes.ByteKind.TheVariants.{Wordy, Digit, HexDigit}

abbrev pub from_to : ℕ → ℕ → ℕ → Bool
from_to low high b = nat_le low b && nat_le b high

abbrev pub is_letter : ℕ → Bool
is_letter b = from_to 65 90 b || from_to 97 122 b

abbrev pub is_digit : ℕ → Bool
is_digit b = from_to 48 57 b

abbrev pub is_wordy : ℕ → Bool
is_wordy b = is_letter b || is_digit b || nat_eq b 95

abbrev pub is_hex_digit : ℕ → Bool
is_hex_digit b = is_digit b || from_to 65 70 b || from_to 97 102 b

abbrev pub is_blank : ℕ → Bool
is_blank b = nat_eq b 32 || nat_eq b 9 || nat_eq b 13 || nat_eq b 10

abbrev pub is_of : ByteKind → ℕ → Bool
is_of Wordy b = is_wordy b
is_of Digit b = is_digit b
is_of HexDigit b = is_hex_digit b

-- it is empty, or its first byte is none of these
abbrev pub Stops : (ℕ → Bool) → List ℕ → Type 0
Stops test [] = Unit {0}
Stops test (b ∷ bs) = test b ≡ false

-- x is the longest run of such bytes at the front of a, and c is what follows
pub record Run (test : ℕ → Bool) (a x c : List ℕ) : Type 0 where
  pub split : a ≡ x ++ c
  pub all : AllByRecursion (λ b. test b ≡ true) x
  pub ends : Stops test c
