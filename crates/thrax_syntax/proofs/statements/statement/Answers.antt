use Rattle.std.proofs.Common.{sym, false, map}
use Rattle.thrax_lexer.specs.Lexemes.{lex_of}
use Rattle.thrax_syntax.specs.Trees.{statement_term}
use Rattle.thrax_syntax.proofs.Stating.{defined_as, func_same, define_made}
use Rattle.text_forms.proofs.Taking.{made_takes, takes_as}
use Rattle.thrax_syntax.proofs.Taking.{same_gives}
use Rattle.thrax_syntax.proofs.statements.statement.Goals as goal

pub returns-in-Some-after_keyword-clause-exact : goal.returns-in-Some-after_keyword-clause-exact
returns-in-Some-after_keyword-clause-exact c =
    same_gives (λ x. statement_term x.0) (λ x. map lex_of x.1.now) c.function.result (func_same (map lex_of c.in-Some-after_keyword.after.now) (map lex_of c.args.lexemes.now) c.in-Some-after_keyword.ensures.found) c.function.ensures.exact

pub returns-in_ok-local-in-None-clause-exact : goal.returns-in_ok-local-in-None-clause-exact
returns-in_ok-local-in-None-clause-exact c =
    takes_as (sym c.define.ensures) (made_takes (defined_as false) (define_made (map lex_of c.args.lexemes.now) c.in_default.ensures.none c.in_default-after_keyword.ensures.none c.in-None.ensures.none) c.in_ok-local-in-None.ensures.exact)
