use Rattle.std.proofs.Common.{map, subst, []}
use Rattle.std.specs.Prelude.{Err}
use Rattle.thrax_lexer.specs.Lexemes.{lex_of}
use Rattle.thrax_lexer.specs.Reading.{LexText}
use Rattle.text_forms.specs.Steps.{Longest}
use Rattle.thrax_syntax.specs.FileOutcomes.{StatesAs}
use Rattle.thrax_syntax.specs.Statements.{Stated}
use Rattle.thrax_syntax.specs.Trees.{statement_term}
use Rattle.thrax_syntax.proofs.Whole.{lexing_stops, deep_answer, states_stop}
use Rattle.thrax_syntax.proofs.files.read.Goals as goal

pub returns-in_err-lexed : goal.returns-in_err-lexed
returns-in_err-lexed c = lexing_stops c.args.text.now c.in_err-lexed.field-0.0 c.from_residual.result c.from_residual.ensures.1 c.in_err-lexed.ensures

pub returns-in-Some : goal.returns-in-Some
returns-in-Some c = deep_answer c.args.text.now (map lex_of c.in_ok-lexed.lexed.lexemes.items) c.in_ok-lexed.lexed.too_deep c.in-Some.at c.in-Some.is c.in_ok-lexed.ensures

pub returns-in_err-statements : goal.returns-in_err-statements
returns-in_err-statements c =
    states_stop c.args.text.now (map lex_of c.in_ok-lexed.lexed.lexemes.items) c.in_ok-lexed.lexed.too_deep c.in_err-statements.field-0.0 c.from_residual-in_err-statements.result c.in_default.is c.in_ok-lexed.ensures c.from_residual-in_err-statements.ensures.1
    (subst (λ v. StatesAs (map lex_of v) (Err c.in_err-statements.field-0.0)) c.deref.ensures.value c.in_err-statements.ensures)

pub returns : goal.returns
returns c = (map lex_of c.in_ok-lexed.lexed.lexemes.items, subst (LexText c.args.text.now (map lex_of c.in_ok-lexed.lexed.lexemes.items)) c.in_default.is c.in_ok-lexed.ensures, subst (λ v. Longest Stated (map lex_of v) (map statement_term c.in_ok-statements.statements.items) []) c.deref.ensures.value c.in_ok-statements.ensures)
