use Rattle.std.proofs.Common.{◌∙◌, sym, ap, map, ◌∷◌}
use Rattle.thrax_lexer.specs.Lexemes.{lex_of, symbol, word}
use Rattle.thrax_lexer.specs.declared.bytes.Symbol.TheVariants.{Equals}
use Rattle.thrax_syntax.proofs.Stating.{local_of, defined_made}
use Rattle.text_forms.proofs.Taking.{made_takes}
use Rattle.thrax_syntax.proofs.statements.definition.Goals as goal

pub returns-clause-exact : goal.returns-clause-exact
returns-clause-exact c =
    made_takes (local_of c.in_ok-name.name)
    (defined_made (map lex_of c.in-Some.after.now) (map lex_of c.args.lexemes.now) c.in_ok-name.name
    (c.in-Some.ensures.found ∙ ap (λ v. word v ∷ symbol Equals ∷ map lex_of c.in-Some.after.now) (sym c.in_ok-name.ensures)))
    c.in_ok-value.ensures.exact
