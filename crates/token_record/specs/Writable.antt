-- Which tokens can be written, and which bytes they hold.
use Rattle.std.specs.Prelude.{true, false, ℕ, ◌≡◌, ◌+◌, ◌≤◌, max, List, All}
use Rattle.std.specs.List.{AllByRecursion}
use Rattle.token_record.specs.Fields.{Fields, no_fields, valued, braced}
use Rattle.text_forms.specs.Bytes.{is_wordy}
use Rattle.token_record.specs.Lexemes.{starts_word}
use Rattle.token_record.specs.Meaning.{TokenTree, spoken, silent, class_of, keeps}

-- a letter or '_', and then letters, digits and '_'
pub record IsWord (w : List ℕ) : Type 0 where
  pub starts : starts_word w ≡ true
  pub all : AllByRecursion (λ b. is_wordy b ≡ true) w

-- no byte is 0
abbrev pub HasNoZero : List ℕ → Type 0
HasNoZero v = All (λ b. 1 ≤ b) v

-- names are words, and values hold no byte 0
abbrev pub AreNamed : Fields → Type 0
AreNamed no_fields = Unit {0}
AreNamed (valued n v fs) = IsWord n × HasNoZero v × AreNamed fs
AreNamed (braced n inner fs) = IsWord n × AreNamed inner × AreNamed fs

-- how many braces the fields have open at once
abbrev pub depth : Fields → ℕ
depth no_fields = 0
depth (valued n v fs) = depth fs
depth (braced n inner fs) = max (depth inner + 1) (depth fs)

-- a record that can be written: at most 16 braces are open at once, with its own and that of "tokens", and no field of its own
-- says that the others keep their order
pub record IsClass (n : List ℕ) (fs : Fields) : Type 0 where
  pub class_word : IsWord n
  pub named : AreNamed fs
  pub shallow : depth fs + 2 ≤ 16
  pub unkept : keeps fs ≡ false

-- a token that can be written
abbrev pub IsWritable : TokenTree → Type 0
IsWritable (spoken v) = HasNoZero v
IsWritable silent = Unit {0}
IsWritable (class_of n keep fs) = IsClass n fs

-- no name and no value holds a byte 0
abbrev pub AreBytes : Fields → Type 0
AreBytes no_fields = Unit {0}
AreBytes (valued n v fs) = HasNoZero n × HasNoZero v × AreBytes fs
AreBytes (braced n inner fs) = HasNoZero n × AreBytes inner × AreBytes fs

-- no words, no class, no name and no value holds a byte 0
abbrev pub TokenHasNoZero : TokenTree → Type 0
TokenHasNoZero (spoken v) = HasNoZero v
TokenHasNoZero silent = Unit {0}
TokenHasNoZero (class_of n keep fs) = HasNoZero n × AreBytes fs
