-- What the calls of the reader that aren't public say.
use Rattle.std.specs.Prelude.{◌≡◌, ℕ, ◌+◌, ◌≤◌, ◌<◌, List, [], ◌∷◌, ◌++◌, Bool, false, take, slice_index, length, Option, None, Some}
use Rattle.std.specs.List.{AllPass}
use Rattle.std.specs.Option.{option_to_list}
use Rattle.text_lines.specs.Lines.{lines}
use Rattle.speak_setup.specs.Forms.{key_text}
use Rattle.speak_setup.specs.Setups.{Entry, Gives, AreFree, IsBadLine, IsRepeated, SetupNames, values, first_missing, needed, most}
use Rattle.speak_setup.specs.declared.key.Key.{Key}
use Rattle.speak_setup.specs.declared.key.Key.TheVariants.{TokenizerGrammar, TokenizerRule, VerbalizerGrammar, VerbalizerRule}
use Rattle.speak_setup.specs.declared.setup.Need.{Need}
use Rattle.speak_setup.specs.declared.setup.SetupFault.{SetupFault}
use Rattle.speak_setup.specs.declared.setup.SetupFault.TheVariants.{BadLine, Repeated, Missing, Memory}
use Rattle.speak_setup.specs.declared.found.Found.{Found}
use Rattle.speak_setup.specs.declared.line.Line.{Line}
use Rattle.speak_setup.specs.declared.line.Line.TheVariants as line

-- whether a text begins with a byte that passes a test
abbrev pub begins : (ℕ → Bool) → List ℕ → Bool
begins test [] = false
begins test (b ∷ bytes) = test b

-- the longest front of a text whose bytes all pass a test, and the rest
pub record Splits (test : ℕ → Bool) (text front rest : List ℕ) : Type 0 where
  pub parts : text ≡ front ++ rest
  pub pass : AllPass test front
  pub end : begins test rest ≡ false

-- so many bytes at the front of a text pass a test, and no more
pub record IsFrontLen (test : ℕ → Bool) (text : List ℕ) (n : ℕ) : Type 0 where
  pub within : n ≤ length text
  pub pass : AllPass test (take n text)
  pub end : n < length text → test (slice_index text n) ≡ false

-- what a line is
abbrev pub IsLine : List ℕ → Line → Type 0
IsLine text line.Skipped = Gives text None
IsLine text (line.Entry key value) = Gives text (Some (record { key = key; value = value.now }))
IsLine text line.Bad = (any : Option Entry) → Gives text any → ⊥

-- the values that were found for a key
abbrev pub found_values : Found → Key → List (List ℕ)
found_values found TokenizerGrammar = option_to_list found.tokenizer
found_values found TokenizerRule = found.tokenizer_rules.items
found_values found VerbalizerGrammar = option_to_list found.verbalizer
found_values found VerbalizerRule = found.verbalizer_rules.items

-- The lines of a text up to a rest of it are free of faults; they are so many, and these are the values of their entries.
pub record ReadsPart (text rest : List ℕ) (number : ℕ) (found : Found) : Type 0 where
  pub front : List (List ℕ)
  pub given : List (Option Entry)
  pub parts : lines text ≡ front ++ lines rest
  pub are_free : AreFree front given
  pub counted : number ≡ length front
  pub fewer : number + length rest ≤ length text
  pub found_values : (key : Key) → found_values found key ≡ values given key

-- no key is missing, and these are the values
pub record IsComplete (need : Need) (values : Key → List (List ℕ)) (names : SetupNames) : Type 0 where
  pub complete : first_missing (needed need) values ≡ None
  pub tokenizer : values TokenizerGrammar ≡ names.tokenizer ∷ []
  pub tokenizer_rules : values TokenizerRule ≡ names.tokenizer_rules
  pub verbalizer : values VerbalizerGrammar ≡ option_to_list names.verbalizer
  pub verbalizer_rules : values VerbalizerRule ≡ names.verbalizer_rules

-- the first key that is missing, or want of memory for its text
abbrev pub IsIncomplete : Need → (Key → List (List ℕ)) → SetupFault → Type 0
IsIncomplete need values (Missing text) = (key : Key) × (first_missing (needed need) values ≡ Some key) × (text ≡ key_text key)
IsIncomplete need values Memory = Unit {0}
IsIncomplete need values (BadLine number) = ⊥
IsIncomplete need values (Repeated number) = ⊥

-- a value was added to those of its key, and no other key has others
pub record AddsValue (old new : Found) (key : Key) (value : List ℕ) : Type 0 where
  pub added : found_values new key ≡ found_values old key ++ value ∷ []
  pub others : (other : Key) → (other ≡ key → ⊥) → found_values new other ≡ found_values old other

-- a line gave nothing, or a value that was added
abbrev pub AddsGiven : Found → Found → Option Entry → Type 0
AddsGiven old new None = (key : Key) → found_values new key ≡ found_values old key
AddsGiven old new (Some entry) = AddsValue old new entry.key entry.value × (length (found_values old entry.key) < most entry.key)

-- what a line gives was added
pub record AddsLine (old new : Found) (line : List ℕ) : Type 0 where
  pub given : Option Entry
  pub gives : Gives line given
  pub adds : AddsGiven old new given

-- The line of this number is of no form, or its key came as often as it may; or memory is wanting.
abbrev pub IsRefused : Found → List ℕ → ℕ → SetupFault → Type 0
IsRefused found line number (BadLine n) = (n ≡ number) × ((any : Option Entry) → Gives line any → ⊥)
IsRefused found line number (Repeated n) = (n ≡ number) × (entry : Entry) × Gives line (Some entry) × (most entry.key ≤ length (found_values found entry.key))
IsRefused found line number (Missing key) = ⊥
IsRefused found line number Memory = Unit {0}

-- the first line at fault, or want of memory
abbrev pub IsLineFault : List ℕ → SetupFault → Type 0
IsLineFault text (BadLine number) = IsBadLine (lines text) number
IsLineFault text (Repeated number) = IsRepeated (lines text) number
IsLineFault text (Missing key) = ⊥
IsLineFault text Memory = Unit {0}
