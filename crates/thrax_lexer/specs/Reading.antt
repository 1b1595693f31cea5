-- What a whole text is, and where it stops.
use Rattle.std.specs.Prelude.{ℕ, ◌≡◌, ◌+◌, ◌-◌, List, [], ◌∷◌, ◌++◌, map, length, Option, Some, None, option_to_list, if◌then◌else◌, nat_lt, Result, Ok, Err}
use Rattle.text_forms.specs.Steps.{Longest}
use Rattle.thrax_lexer.specs.Lexemes.{Lex, symbol, Piece, lex_of}
use Rattle.thrax_lexer.specs.declared.bytes.Symbol.{Symbol}
use Rattle.thrax_lexer.specs.declared.bytes.Symbol.TheVariants.{OpenBrace, CloseBrace, OpenParen, CloseParen, OpenBracket, CloseBracket}
use Rattle.thrax_lexer.specs.declared.reading.Nesting.{Nesting}
use Rattle.thrax_lexer.specs.declared.reading.Lexed.{Lexed}
use Rattle.thrax_lexer.specs.declared.reading.LexFault.{LexFault}
use Rattle.thrax_lexer.specs.declared.reading.LexFault.TheVariants.{BadLexeme, BadWeight, Memory}

-- a blank, a comment or a lexeme, and how many bytes of the text stand before it
pub record Spot : Type 0 where
  pub at : ℕ
  pub item : Option Lex

-- the front of what is left of a text of so many bytes
abbrev pub Spotted : ℕ → List ℕ → Spot → List ℕ → Type 0
Spotted total a s b = (s.at ≡ total - length a) × Piece a s.item b

-- the lexemes without the blanks and comments
abbrev pub lexes : List Spot → List Lex
lexes [] = []
lexes (s ∷ ss) = option_to_list s.item ++ lexes ss

-- how many brackets are open behind a lexeme
abbrev pub turned : ℕ → Symbol → ℕ
turned d OpenParen = d + 1
turned d OpenBracket = d + 1
turned d OpenBrace = d + 1
turned d CloseParen = d - 1
turned d CloseBracket = d - 1
turned d CloseBrace = d - 1
turned d s = d

abbrev pub behind : ℕ → Option Lex → ℕ
behind d (Some (symbol s)) = turned d s
behind d i = d

-- the first bracket that makes more than 128 open stays
abbrev pub nested : ℕ → Option ℕ → ℕ → Option Lex → Nesting
nested d (Some place) at i = record { depth = d; over = Some place }
nested d None at i = if nat_lt 128 (behind d i) then record { depth = d; over = Some at } else record { depth = behind d i; over = None }

abbrev pub nest : Nesting → List Spot → Nesting
nest n [] = n
nest n (s ∷ ss) = nest (nested n.depth n.over s.at s.item) ss

-- the place of the first bracket that is too deep
abbrev pub too_deep : List Spot → Option ℕ
too_deep ss = (nest (record { depth = 0; over = None }) ss).over

-- the fault at a place where the byte b begins no blank, comment or lexeme
abbrev pub StoppedBy : ℕ → ℕ → LexFault → Type 0
StoppedBy b place Memory = ⊥
StoppedBy b place (BadWeight at) = (b ≡ 60) × (at ≡ place)
StoppedBy b place (BadLexeme at) = (b ≡ 60 → ⊥) × (at ≡ place)

-- a fault stands where the longest list of blanks, comments and lexemes ends
pub record Stopped (text : List ℕ) (f : LexFault) : Type 0 where
  pub spots : List Spot
  pub first : ℕ
  pub after : List ℕ
  pub longest : Longest (Spotted (length text)) text spots (first ∷ after)
  pub why : StoppedBy first (length text - length (first ∷ after)) f

abbrev pub LexFails : List ℕ → LexFault → Type 0
LexFails text Memory = Unit {0}
LexFails text f = Stopped text f

-- the text is these blanks, comments and lexemes and no others
pub record LexText (text : List ℕ) (found : List Lex) (deep : Option ℕ) : Type 0 where
  pub spots : List Spot
  pub whole : Longest (Spotted (length text)) text spots []
  pub lexemes : lexes spots ≡ found
  pub deepest : too_deep spots ≡ deep

abbrev pub LexAnswers : List ℕ → Result Lexed LexFault → Type 0
LexAnswers text (Ok v) = LexText text (map lex_of v.lexemes.items) v.too_deep
LexAnswers text (Err f) = LexFails text f
