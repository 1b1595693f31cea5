use Rattle.std.proofs.Common.{sym, true, map}
use Rattle.thrax_lexer.specs.Lexemes.{lex_of}
use Rattle.thrax_syntax.specs.Trees.{statement_term}
use Rattle.thrax_syntax.proofs.Stating.{defined_as, export_func_same, export_made}
use Rattle.text_forms.proofs.Taking.{made_takes, takes_as}
use Rattle.thrax_syntax.proofs.Taking.{same_gives}
use Rattle.thrax_syntax.proofs.statements.exported.Goals as goal

pub returns-in-Some-clause-exact : goal.returns-in-Some-clause-exact
returns-in-Some-clause-exact c =
    same_gives (λ x. statement_term x.0) (λ x. map lex_of x.1.now) c.function.result (export_func_same (map lex_of c.in-Some.after.now) (map lex_of c.args.lexemes.now) c.in-Some.ensures.found) c.function.ensures.exact

pub returns-in_ok-local-in-None-clause-exact : goal.returns-in_ok-local-in-None-clause-exact
returns-in_ok-local-in-None-clause-exact c =
    takes_as (sym c.define.ensures) (made_takes (defined_as true) (export_made (map lex_of c.args.lexemes.now) c.in-None.ensures.none) c.in_ok-local-in-None.ensures.exact)
