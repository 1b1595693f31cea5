-- The fields of a line of a string file, and the weight of a field.
use Rattle.std.specs.Prelude.{ℕ, List, [], ◌∷◌, length, Bool, true, false, ◌==◌, ◌&&◌, nat_lt, nat_le, if◌then◌else◌, Some, None}
use Rattle.std.specs.declared.option.Option.{Option}
use Rattle.text_forms.specs.Bytes.{is_digit}
use Rattle.text_forms.specs.Numbers.{weight_of}

-- a byte goes onto the first of the lists
abbrev pub onto_first : ℕ → List (List ℕ) → List (List ℕ)
onto_first b [] = (b ∷ []) ∷ []
onto_first b (line ∷ lines) = (b ∷ line) ∷ lines

-- the fields of a line, with tabs between them
abbrev pub fields : List ℕ → List (List ℕ)
fields [] = [] ∷ []
fields (b ∷ bytes) = if b == 9 then [] ∷ fields bytes else onto_first b (fields bytes)

-- each is a byte from 1 to 255
abbrev pub are_bytes : List ℕ → Bool
are_bytes [] = true
are_bytes (b ∷ bytes) = nat_le 1 b && nat_le b 255 && are_bytes bytes

abbrev pub are_digits : List ℕ → Bool
are_digits [] = true
are_digits (b ∷ bytes) = is_digit b && are_digits bytes

abbrev pub digits_of : List ℕ → List ℕ
digits_of [] = []
digits_of (b ∷ bytes) = if is_digit b then b ∷ digits_of bytes else []

abbrev pub after_digits : List ℕ → List ℕ
after_digits [] = []
after_digits (b ∷ bytes) = if is_digit b then after_digits bytes else b ∷ bytes

abbrev pub is_empty : List ℕ → Bool
is_empty [] = true
is_empty (b ∷ bytes) = false

-- digits before and behind the point, in ten-thousandths, where there are some
abbrev pub weight_said : List ℕ → List ℕ → Option ℕ
weight_said digits places = if is_empty digits && is_empty places then None else Some (weight_of digits places)

-- after the digits comes nothing, or a point and at most four digits
abbrev pub weight_with : List ℕ → List ℕ → Option ℕ
weight_with digits [] = weight_said digits []
weight_with digits (b ∷ places) = if b == 46 && nat_le (length places) 4 && are_digits places then weight_said digits places else None

abbrev pub limited : Option ℕ → Option ℕ
limited None = None
limited (Some w) = if nat_lt w 4294967296 then Some w else None

-- the weight that a field says, in ten-thousandths, where it is a decimal below 2^32
abbrev pub weight_field : List ℕ → Option ℕ
weight_field bytes = limited (weight_with (digits_of bytes) (after_digits bytes))
