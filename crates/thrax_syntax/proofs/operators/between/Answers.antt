use Rattle.std.proofs.Common.{◌∙◌, ap, map, ◌∷◌}
use Rattle.thrax_lexer.specs.Lexemes.{lex_of, number, symbol}
use Rattle.thrax_lexer.specs.declared.bytes.Symbol.TheVariants.{Comma}
use Rattle.thrax_syntax.proofs.Marks.{braces_take}
use Rattle.thrax_syntax.proofs.operators.between.Goals as goal

pub returns-then-least-most-clause-exact : goal.returns-then-least-most-clause-exact
returns-then-least-most-clause-exact c = braces_take (map lex_of c.args.lexemes.now) (map lex_of c.in_ok-rest-2.rest.now) c.in_ok-least.least c.in_ok-most.most
    (c.in_ok-least.ensures.found ∙ ap (λ v. number c.in_ok-least.least ∷ v) (c.in_ok-rest.ensures.found ∙ ap (λ v. symbol Comma ∷ v) (c.in_ok-most.ensures.found ∙ ap (λ v. number c.in_ok-most.most ∷ v) c.in_ok-rest-2.ensures.found)))
    c.if-least-most.true
