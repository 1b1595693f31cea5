use Rattle.std.proofs.Common.{map, ◌∷◌}
use Rattle.thrax_lexer.specs.Lexemes.{lex_of, symbol}
use Rattle.thrax_lexer.specs.declared.bytes.Symbol.TheVariants.{Semicolon, CloseBrace}
use Rattle.thrax_syntax.specs.Grammar.{Spells, expr}
use Rattle.thrax_syntax.specs.declared.stop.Stop.TheVariants.{Syntax}
use Rattle.thrax_syntax.proofs.Stating.{body_of, body_then}
use Rattle.text_forms.proofs.Taking.{then_takes, takes_before}
use Rattle.thrax_syntax.proofs.Taking.{then_misses, takes_stuck}
use Rattle.thrax_syntax.proofs.statements.body.Goals as goal

pub returns-in-Some-clause-exact : goal.returns-in-Some-clause-exact
returns-in-Some-clause-exact c =
    then_takes (λ b t d. Spells expr b t (symbol Semicolon ∷ symbol CloseBrace ∷ d)) body_of (body_then (map lex_of c.args.lexemes.now)) c.in_ok-locals.ensures.exact
    (takes_before (symbol CloseBrace) (map lex_of c.in-Some.rest.now) c.in-Some.ensures.found c.in_ok-result.ensures.exact)

pub returns-in-None-clause-exact : goal.returns-in-None-clause-exact
returns-in-None-clause-exact c =
    then_misses (λ b t d. Spells expr b t (symbol Semicolon ∷ symbol CloseBrace ∷ d)) body_of Syntax (body_then (map lex_of c.args.lexemes.now)) c.in_ok-locals.ensures.exact
    (takes_stuck (symbol CloseBrace) c.in-None.ensures.none c.in_ok-result.ensures.exact)
