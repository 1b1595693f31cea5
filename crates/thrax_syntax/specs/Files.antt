-- The texts of grammar files, and the first fault of a text that is none.
use Rattle.std.specs.Prelude.{ℕ, ◌≡◌, ◌+◌, List, [], length, Some, None, Result, Ok, Err}
use Rattle.thrax_lexer.specs.Lexemes.{Lex}
use Rattle.thrax_lexer.specs.Reading.{LexText, LexFails}
use Rattle.text_forms.specs.Steps.{Many, Longest}
use Rattle.thrax_lexer.specs.declared.reading.LexFault.{LexFault}
use Rattle.thrax_lexer.specs.declared.reading.LexFault.TheVariants as lexing
use Rattle.thrax_syntax.specs.Statements.{Stated}
use Rattle.thrax_syntax.specs.Trees.{StatementTerm, file_term}
use Rattle.thrax_syntax.specs.declared.tree.File.{File}
use Rattle.thrax_syntax.specs.declared.fault.ReadFault.{ReadFault}
use Rattle.thrax_syntax.specs.declared.fault.ReadFault.TheVariants.{BadLexeme, BadWeight, TooDeep, Syntax, Memory}

-- the text is lexemes, none of its brackets is too deep, and the lexemes are the statements of this file
pub record FileText (file : List StatementTerm) (text : List ℕ) : Type 0 where
  pub lexemes : List Lex
  pub lexed : LexText text lexemes None
  pub statements : Many Stated lexemes file []

-- the text is lexemes, and a bracket at this place is the first that is too deep
pub record DeepText (text : List ℕ) (place : ℕ) : Type 0 where
  pub lexemes : List Lex
  pub lexed : LexText text lexemes (Some place)

-- the text is lexemes that begin with one less whole statements, and something is left
pub record BadStatement (text : List ℕ) (number : ℕ) : Type 0 where
  pub lexemes : List Lex
  pub lexed : LexText text lexemes None
  pub whole : List StatementTerm
  pub left : List Lex
  pub longest : Longest Stated lexemes whole left
  pub some_left : left ≡ [] → ⊥
  pub counted : number ≡ length whole + 1

-- the first fault of a text: what isn't a lexeme comes before depth, and depth before statements
abbrev pub FirstFault : List ℕ → ReadFault → Type 0
FirstFault text (BadLexeme place) = LexFails text (lexing.BadLexeme place)
FirstFault text (BadWeight place) = LexFails text (lexing.BadWeight place)
FirstFault text (TooDeep place) = DeepText text place
FirstFault text (Syntax number) = BadStatement text number
FirstFault text Memory = ⊥

-- what a text is: the statements of a file, or a fault
abbrev pub Reading : List ℕ → Result (List StatementTerm) ReadFault → Type 0
Reading text (Ok file) = FileText file text
Reading text (Err fault) = FirstFault text fault

-- the answer is a reading of the text, or memory ran out
abbrev pub IsRead : List ℕ → Result File ReadFault → Type 0
IsRead text (Ok file) = FileText (file_term file) text
IsRead text (Err (BadLexeme place)) = FirstFault text (BadLexeme place)
IsRead text (Err (BadWeight place)) = FirstFault text (BadWeight place)
IsRead text (Err (TooDeep place)) = FirstFault text (TooDeep place)
IsRead text (Err (Syntax number)) = FirstFault text (Syntax number)
IsRead text (Err Memory) = Unit {0}

-- the answer is this reading, or memory ran out
abbrev pub IsAnswer : Result (List StatementTerm) ReadFault → Result File ReadFault → Type 0
IsAnswer r (Ok file) = r ≡ Ok (file_term file)
IsAnswer r (Err (BadLexeme place)) = r ≡ Err (BadLexeme place)
IsAnswer r (Err (BadWeight place)) = r ≡ Err (BadWeight place)
IsAnswer r (Err (TooDeep place)) = r ≡ Err (TooDeep place)
IsAnswer r (Err (Syntax number)) = r ≡ Err (Syntax number)
IsAnswer r (Err Memory) = Unit {0}

-- what the fault of a lexeme is to the reader
abbrev pub fault_of : LexFault → ReadFault
fault_of (lexing.BadLexeme place) = BadLexeme place
fault_of (lexing.BadWeight place) = BadWeight place
fault_of lexing.Memory = Memory
