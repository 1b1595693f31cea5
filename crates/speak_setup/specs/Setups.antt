-- The setup that a text is, or its first fault.
use Rattle.std.specs.Prelude.{◌≡◌, ℕ, ◌+◌, ◌≤◌, List, [], ◌∷◌, ◌++◌, Bool, true, false, length, ◌==◌, Option, None, Some, IsSomeAnd, Result, Ok, Err, if◌then◌else◌}
use Rattle.std.specs.List.{All}
use Rattle.std.specs.Option.{option_to_list}
use Rattle.text_lines.specs.Lines.{lines}
use Rattle.speak_setup.specs.Forms.{IsSkipped, IsEntry, key_text}
use Rattle.speak_setup.specs.declared.key.Key.{Key}
use Rattle.speak_setup.specs.declared.key.Key.TheVariants.{TokenizerGrammar, TokenizerRule, VerbalizerGrammar, VerbalizerRule}
use Rattle.speak_setup.specs.declared.setup.Need.{Need}
use Rattle.speak_setup.specs.declared.setup.Need.TheVariants.{Both, Classifier}
use Rattle.speak_setup.specs.declared.setup.Setup.{Setup}
use Rattle.speak_setup.specs.declared.setup.SetupFault.{SetupFault}
use Rattle.speak_setup.specs.declared.setup.SetupFault.TheVariants.{BadLine, Repeated, Missing, Memory}

-- a value that a line gives a key
pub record Entry : Type 0 where
  pub key : Key
  pub value : List ℕ

-- what a line gives: nothing where it is skipped
abbrev pub Gives : List ℕ → Option Entry → Type 0
Gives line None = IsSkipped line
Gives line (Some entry) = IsEntry line entry.key entry.value

-- what each line gives, in order
abbrev pub AllGive : List (List ℕ) → List (Option Entry) → Type 0
AllGive [] [] = Unit {0}
AllGive [] (given ∷ all) = ⊥
AllGive (line ∷ lines) [] = ⊥
AllGive (line ∷ lines) (given ∷ all) = Gives line given × AllGive lines all

abbrev pub same_key : Key → Key → Bool
same_key TokenizerGrammar TokenizerGrammar = true
same_key TokenizerRule TokenizerRule = true
same_key VerbalizerGrammar VerbalizerGrammar = true
same_key VerbalizerRule VerbalizerRule = true
same_key _ _ = false

-- the values that a key is given, in order
abbrev pub values : List (Option Entry) → Key → List (List ℕ)
values [] key = []
values (None ∷ all) key = values all key
values (Some entry ∷ all) key = if same_key entry.key key then entry.value ∷ values all key else values all key

-- how many rules a cascade may have
abbrev pub most_rules : ℕ
most_rules = 4

-- how often a key may come
abbrev pub most : Key → ℕ
most TokenizerGrammar = 1
most TokenizerRule = most_rules
most VerbalizerGrammar = 1
most VerbalizerRule = most_rules

-- the lines give this, and no key comes more often than it may
pub record AreFree (lines : List (List ℕ)) (given : List (Option Entry)) : Type 0 where
  pub gives : AllGive lines given
  pub fit : (key : Key) → length (values given key) ≤ most key

-- the line of this number, from 1 on, with the lines before it, of which none is at fault
pub record IsAfter (lines : List (List ℕ)) (number : ℕ) (given : List (Option Entry)) (line : List ℕ) : Type 0 where
  pub front : List (List ℕ)
  pub rest : List (List ℕ)
  pub parts : lines ≡ front ++ line ∷ rest
  pub counted : number ≡ length front + 1
  pub are_free : AreFree front given

-- the first line at fault is this one, and it is neither skipped nor an entry
pub record IsBadLine (lines : List (List ℕ)) (number : ℕ) : Type 0 where
  pub given : List (Option Entry)
  pub line : List ℕ
  pub is_after : IsAfter lines number given line
  pub bad : (any : Option Entry) → Gives line any → ⊥

-- the first line at fault is this one, and its key came as often as it may
pub record IsRepeated (lines : List (List ℕ)) (number : ℕ) : Type 0 where
  pub given : List (Option Entry)
  pub line : List ℕ
  pub is_after : IsAfter lines number given line
  pub entry : Entry
  pub gives : Gives line (Some entry)
  pub full : length (values given entry.key) ≡ most entry.key

-- the keys that have to come, in the order in which they are missed
abbrev pub needed : Need → List Key
needed Both = TokenizerGrammar ∷ TokenizerRule ∷ VerbalizerGrammar ∷ VerbalizerRule ∷ []
needed Classifier = TokenizerGrammar ∷ TokenizerRule ∷ []

-- the first key that has no value
abbrev pub first_missing : List Key → (Key → List (List ℕ)) → Option Key
first_missing [] values = None
first_missing (key ∷ keys) values = if length (values key) == 0 then Some key else first_missing keys values

-- no line is at fault, and this is the first key that is missing
pub record IsMissing (need : Need) (lines : List (List ℕ)) (text : List ℕ) : Type 0 where
  pub given : List (Option Entry)
  pub are_free : AreFree lines given
  pub key : Key
  pub missing : first_missing (needed need) (values given) ≡ Some key
  pub is_text : text ≡ key_text key

-- the names of a setup
pub record SetupNames : Type 0 where
  pub tokenizer : List ℕ
  pub tokenizer_rules : List (List ℕ)
  pub verbalizer : Option (List ℕ)
  pub verbalizer_rules : List (List ℕ)

abbrev pub names_of : Setup → SetupNames
names_of setup = record {
  tokenizer = setup.tokenizer;
  tokenizer_rules = setup.tokenizer_rules.items;
  verbalizer = setup.verbalizer;
  verbalizer_rules = setup.verbalizer_rules.items;
}

-- the bytes of a grammar's name are from 32 to 126, and it has 1 to as many rules as a cascade may have
pub record IsNamed (grammar : List ℕ) (rules : List (List ℕ)) : Type 0 where
  pub printed : All (λ b. (32 ≤ b) × (b ≤ 126)) grammar
  pub some : 1 ≤ length rules
  pub few : length rules ≤ most_rules

-- the verbaliser's grammar and its rules, where they are needed
abbrev pub HasVerbalizer : Need → SetupNames → Type 0
HasVerbalizer Both names = IsSomeAnd names.verbalizer (λ grammar. IsNamed grammar names.verbalizer_rules)
HasVerbalizer Classifier names = Unit {0}

-- a setup has what is needed of it
pub record HasNames (need : Need) (names : SetupNames) : Type 0 where
  pub tokenizer : IsNamed names.tokenizer names.tokenizer_rules
  pub verbalizer : HasVerbalizer need names

-- no line is at fault, no key is missing, and these are the values
pub record IsSetup (need : Need) (lines : List (List ℕ)) (names : SetupNames) : Type 0 where
  pub given : List (Option Entry)
  pub are_free : AreFree lines given
  pub complete : first_missing (needed need) (values given) ≡ None
  pub tokenizer : values given TokenizerGrammar ≡ names.tokenizer ∷ []
  pub tokenizer_rules : values given TokenizerRule ≡ names.tokenizer_rules
  pub verbalizer : values given VerbalizerGrammar ≡ option_to_list names.verbalizer
  pub verbalizer_rules : values given VerbalizerRule ≡ names.verbalizer_rules

-- what a text is as a setup: the one of these names, or its first fault
pub data SetupText (need : Need) (text : List ℕ) : Result SetupNames SetupFault → Type 0 where
  is_setup : (names : SetupNames) → IsSetup need (lines text) names → SetupText need text (Ok names)
  is_bad_line : (number : ℕ) → IsBadLine (lines text) number → SetupText need text (Err (BadLine number))
  is_repeated : (number : ℕ) → IsRepeated (lines text) number → SetupText need text (Err (Repeated number))
  is_missing : (key : List ℕ) → IsMissing need (lines text) key → SetupText need text (Err (Missing key))

-- what the answer of a reader says, unless memory is wanting
abbrev pub outcome_of : Result Setup SetupFault → Option (Result SetupNames SetupFault)
outcome_of (Ok setup) = Some (Ok (names_of setup))
outcome_of (Err Memory) = None
outcome_of (Err fault) = Some (Err fault)
