-- What a line of a setup may be.
use Rattle.std.specs.Prelude.{◌≡◌, ℕ, ◌≤◌, List, [], ◌∷◌, ◌++◌, Bool, ◌==◌, ◌&&◌, ◌||◌, not, nat_le, length, codes}
use Rattle.std.specs.List.{AllPass}
use Rattle.speak_setup.specs.declared.key.Key.{Key}
use Rattle.speak_setup.specs.declared.key.Key.TheVariants.{TokenizerGrammar, TokenizerRule, VerbalizerGrammar, VerbalizerRule}

-- a space or a tab
abbrev pub is_blank : ℕ → Bool
is_blank b = b == 32 || b == 9

-- a byte from 32 to 126 that is neither a double quote nor a backslash
abbrev pub is_value_byte : ℕ → Bool
is_value_byte b = nat_le 32 b && nat_le b 126 && not (b == 34) && not (b == 92)

abbrev pub AreBlank : List ℕ → Type 0
AreBlank bytes = AllPass is_blank bytes

-- 1 to 255 bytes that a value may hold
pub record IsValue (value : List ℕ) : Type 0 where
  pub some : 1 ≤ length value
  pub most : length value ≤ 255
  pub bytes : AllPass is_value_byte value

-- the text of a key
abbrev pub key_text : Key → List ℕ
key_text TokenizerGrammar = codes "tokenizer_grammar"
key_text TokenizerRule = codes "tokenizer_rule"
key_text VerbalizerGrammar = codes "verbalizer_grammar"
key_text VerbalizerRule = codes "verbalizer_rule"

-- nothing, or what begins with a #
abbrev pub SaysNothing : List ℕ → Type 0
SaysNothing [] = Unit {0}
SaysNothing (b ∷ bytes) = b ≡ 35

-- a line of spaces and tabs alone, or with a # as its first other byte
pub record IsSkipped (line : List ℕ) : Type 0 where
  pub blanks : List ℕ
  pub rest : List ℕ
  pub parts : line ≡ blanks ++ rest
  pub blank : AreBlank blanks
  pub nothing : SaysNothing rest

-- a value in double quotes, with spaces and tabs after it
pub record IsQuoted (text value : List ℕ) : Type 0 where
  pub last : List ℕ
  pub parts : text ≡ 34 ∷ (value ++ 34 ∷ last)
  pub blank_last : AreBlank last
  pub is_value : IsValue value

-- a key, a colon and a value in double quotes, with spaces and tabs between and after them
pub record IsAssigned (text : List ℕ) (key : Key) (value : List ℕ) : Type 0 where
  pub between : List ℕ
  pub after : List ℕ
  pub quoted : List ℕ
  pub parts : text ≡ key_text key ++ (between ++ 58 ∷ (after ++ quoted))
  pub blank_between : AreBlank between
  pub blank_after : AreBlank after
  pub is_quoted : IsQuoted quoted value

-- a line that gives a key a value: the same with spaces and tabs before it
pub record IsEntry (line : List ℕ) (key : Key) (value : List ℕ) : Type 0 where
  pub before : List ℕ
  pub rest : List ℕ
  pub parts : line ≡ before ++ rest
  pub blank_before : AreBlank before
  pub is_assigned : IsAssigned rest key value
