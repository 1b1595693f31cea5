-- What digits say.
use Rattle.std.specs.Prelude.{ℕ, ◌≡◌, ◌+◌, ◌-◌, ◌*◌, ◌^◌, ◌<◌, ◌≤◌, List, [], ◌∷◌, length, if◌then◌else◌}
use Rattle.text_forms.specs.Bytes.{is_digit, is_of, from_to, Run}
use Rattle.text_forms.specs.declared.bytes.ByteKind.TheVariants.{Digit}

abbrev pub digit_value : ℕ → ℕ
digit_value b =
    if is_digit b then b - 48 else
    if from_to 65 70 b then b - 55 else
    if from_to 97 102 b then b - 87 else 0

-- the number that digits say after others with the value n
abbrev pub value_from : ℕ → ℕ → List ℕ → ℕ
value_from base n [] = n
value_from base n (b ∷ bs) = value_from base (n * base + digit_value b) bs

abbrev pub value : ℕ → List ℕ → ℕ
value base bs = value_from base 0 bs

-- digits before and behind the point, in ten-thousandths
abbrev pub weight_of : List ℕ → List ℕ → ℕ
weight_of digits places = value_from 10 (value 10 digits) places * 10 ^ (4 - length places)

-- a is nothing, or a point and at most four digits
pub data Places : List ℕ → List ℕ → Type 0 where
  no_point : Places [] []
  point : {b : ℕ} {a places : List ℕ} → b ≡ 46 → Run (is_of Digit) a places [] → length places ≤ 4 → Places (b ∷ a) places

-- a is a decimal of the weight w: digits before a point, behind it, or both
pub data Decimal : List ℕ → ℕ → Type 0 where
  decimal : {a rest digits places : List ℕ} → Run (is_of Digit) a digits rest → Places rest places → 0 < length digits + length places → Decimal a (weight_of digits places)
