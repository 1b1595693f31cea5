use Rattle.std.proofs.Common.{◌∙◌, sym, ap, map, ◌∷◌}
use Rattle.thrax_lexer.specs.Lexemes.{lex_of, symbol, word}
use Rattle.thrax_lexer.specs.declared.bytes.Symbol.TheVariants.{OpenBracket}
use Rattle.thrax_syntax.specs.Statements.{Body}
use Rattle.thrax_syntax.proofs.Stating.{func_of, function_then}
use Rattle.text_forms.proofs.Taking.{then_takes}
use Rattle.thrax_syntax.proofs.statements.function.Goals as goal

pub returns-clause-exact : goal.returns-clause-exact
returns-clause-exact c =
    then_takes Body (func_of c.in_ok-name.name)
    (function_then (map lex_of c.in-Some.after.now) (map lex_of c.args.lexemes.now) c.in_ok-name.name
    (c.in-Some.ensures.found ∙ ap (λ v. word v ∷ symbol OpenBracket ∷ map lex_of c.in-Some.after.now) (sym c.in_ok-name.ensures)))
    c.in_ok-params.ensures.exact c.in_ok-body.ensures.exact
