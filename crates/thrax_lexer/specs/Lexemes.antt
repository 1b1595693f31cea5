-- Lexemes, and what stands at the front of a text.
use Rattle.std.specs.Prelude.{ℕ, ◌≡◌, ◌<◌, ◌≤◌, ◌^◌, List, [], ◌∷◌, length, Option, Some, None, if◌then◌else◌, codes}
use Rattle.std.specs.Str.{bytes_eq}
use Rattle.text_forms.specs.Bytes.{Run, is_of}
use Rattle.thrax_lexer.specs.Bytes.{starts, is_inside}
use Rattle.text_forms.specs.Numbers.{value, Decimal}
use Rattle.thrax_lexer.specs.Strings.{Closed}
use Rattle.thrax_lexer.specs.declared.bytes.Symbol.{Symbol}
use Rattle.thrax_lexer.specs.declared.bytes.Start.{Start}
use Rattle.thrax_lexer.specs.declared.bytes.Start.TheVariants.{Blank, Comment, Word, Number, Weight, Text, Quoted, Symbol as Single, Nothing}
use Rattle.text_forms.specs.declared.bytes.ByteKind.TheVariants.{Wordy, Digit}
use Rattle.thrax_lexer.specs.declared.bytes.Inside.TheVariants as inner
use Rattle.thrax_lexer.specs.declared.lexemes.Keyword.{Keyword}
use Rattle.thrax_lexer.specs.declared.lexemes.Keyword.TheVariants.{Export, Import, As, Func, Return}
use Rattle.thrax_lexer.specs.declared.lexemes.Lexeme.{Lexeme}
use Rattle.thrax_lexer.specs.declared.lexemes.Lexeme.TheVariants as value_of

-- a lexeme without where it lies in memory; a string is the bytes between its quotes
pub data Lex : Type 0 where
  word : List ℕ → Lex
  keyword : Keyword → Lex
  number : ℕ → Lex
  weight : ℕ → Lex
  string : List ℕ → Lex
  quoted : List ℕ → Lex
  symbol : Symbol → Lex

abbrev pub keyword_named : List ℕ → Option Keyword
keyword_named x =
    if bytes_eq x (codes "export") then Some Export else
    if bytes_eq x (codes "import") then Some Import else
    if bytes_eq x (codes "as") then Some As else
    if bytes_eq x (codes "func") then Some Func else
    if bytes_eq x (codes "return") then Some Return else None

abbrev pub name_or : List ℕ → Option Keyword → Lex
name_or x None = word x
name_or x (Some k) = keyword k

-- a word is a keyword or a name
abbrev pub word_lex : List ℕ → Lex
word_lex x = name_or x (keyword_named x)

-- a number at the front of a text: a whole run of one to four digits
pub record NumberAt (a : List ℕ) (n : ℕ) (c : List ℕ) : Type 0 where
  pub digits : List ℕ
  pub run : Run (is_of Digit) a digits c
  pub some : 0 < length digits
  pub few : length digits ≤ 4
  pub says : n ≡ value 10 digits

-- what follows a '<': a decimal in range and a '>'
pub record WeightAt (a : List ℕ) (w : ℕ) (c : List ℕ) : Type 0 where
  pub inside : List ℕ
  pub run : Run (is_inside inner.Weight) a inside (62 ∷ c)
  pub says : Decimal inside w
  pub small : w < 2 ^ 32

-- what follows a single quote: some bytes and another
pub record QuotedAt (a bytes c : List ℕ) : Type 0 where
  pub run : Run (is_inside inner.Quotes) a bytes (39 ∷ c)
  pub some : 0 < length bytes

-- what stands before c in a text that has the byte b and then a, by what b begins; None is a blank or a comment
abbrev pub Front : Start → ℕ → List ℕ → Option Lex → List ℕ → Type 0
Front Blank b a i c = (i ≡ None) × (c ≡ a)
Front Comment b a i c = (x : List ℕ) × (i ≡ None) × Run (is_inside inner.Comment) a x c
Front Word b a i c = (x : List ℕ) × (i ≡ Some (word_lex (b ∷ x))) × Run (is_of Wordy) a x c
Front Number b a i c = (n : ℕ) × (i ≡ Some (number n)) × NumberAt (b ∷ a) n c
Front Weight b a i c = (w : ℕ) × (i ≡ Some (weight w)) × WeightAt a w c
Front Text b a i c = (x : List ℕ) × (i ≡ Some (string x)) × Closed a x c
Front Quoted b a i c = (x : List ℕ) × (i ≡ Some (quoted x)) × QuotedAt a x c
Front (Single s) b a i c = (i ≡ Some (symbol s)) × (c ≡ a)
Front Nothing b a i c = ⊥

-- a blank, a comment or a lexeme stands at the front of a text, before the rest
abbrev pub Piece : List ℕ → Option Lex → List ℕ → Type 0
Piece [] i c = ⊥
Piece (b ∷ a) i c = Front (starts b) b a i c

-- what a lexeme of the program stands for
abbrev pub lex_of : Lexeme → Lex
lex_of (value_of.Word x) = word x.now
lex_of (value_of.Keyword k) = keyword k
lex_of (value_of.Number n) = number n
lex_of (value_of.Weight w) = weight w
lex_of (value_of.Text x) = string x.now
lex_of (value_of.Quoted x) = quoted x.now
lex_of (value_of.Symbol s) = symbol s

abbrev pub lexed : Option Lexeme → Option Lex
lexed None = None
lexed (Some x) = Some (lex_of x)
