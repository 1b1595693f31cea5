-- What the reader of whole files answers inside.
use Rattle.std.specs.Prelude.{◌≡◌, ◌+◌, ℕ, List, [], length, map, None, Result, Ok, Err, Vec}
use Rattle.std.specs.declared.alloc.Global.{Global}
use Rattle.thrax_lexer.specs.Lexemes.{Lex}
use Rattle.thrax_lexer.specs.Reading.{LexText}
use Rattle.text_forms.specs.Steps.{Longest}
use Rattle.thrax_syntax.specs.Files.{FirstFault}
use Rattle.thrax_syntax.specs.Statements.{BodyTerm, Stated}
use Rattle.thrax_syntax.specs.Trees.{StatementTerm, file_term, local_term, statement_term, tree_term}
use Rattle.thrax_syntax.specs.declared.fault.ReadFault.{ReadFault}
use Rattle.thrax_syntax.specs.declared.fault.ReadFault.TheVariants.{BadLexeme, BadWeight, TooDeep, Syntax, Memory}
use Rattle.thrax_syntax.specs.declared.statements.FunctionBody.{FunctionBody}
use Rattle.thrax_syntax.specs.declared.tree.File.{File}
use Rattle.thrax_syntax.specs.declared.tree.Statement.{Statement}

-- the statements of the longest list, and what is left is a fault
abbrev pub StatesAs : List Lex → Result (Vec Statement Global) ReadFault → Type 0
StatesAs lexemes (Ok v) = Longest Stated lexemes (map statement_term v.items) []
StatesAs lexemes (Err (Syntax number)) = (whole : List StatementTerm) × (left : List Lex) × Longest Stated lexemes whole left × (left ≡ [] → ⊥) × (number ≡ length whole + 1)
StatesAs lexemes (Err Memory) = Unit {0}
StatesAs lexemes (Err (BadLexeme place)) = ⊥
StatesAs lexemes (Err (BadWeight place)) = ⊥
StatesAs lexemes (Err (TooDeep place)) = ⊥

-- the file whose statements are the longest list, or the first fault
abbrev pub FileAnswers : List ℕ → Result File ReadFault → Type 0
FileAnswers text (Ok file) = (lexemes : List Lex) × LexText text lexemes None × Longest Stated lexemes (file_term file) []
FileAnswers text (Err (BadLexeme place)) = FirstFault text (BadLexeme place)
FileAnswers text (Err (BadWeight place)) = FirstFault text (BadWeight place)
FileAnswers text (Err (TooDeep place)) = FirstFault text (TooDeep place)
FileAnswers text (Err (Syntax number)) = FirstFault text (Syntax number)
FileAnswers text (Err Memory) = Unit {0}

abbrev pub body_term : FunctionBody → BodyTerm
body_term b = record { locals = map local_term b.locals.items; result = tree_term b.result }
