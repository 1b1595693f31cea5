use Rattle.std.proofs.Common.{map}
use Rattle.thrax_lexer.specs.Lexemes.{lex_of}
use Rattle.thrax_syntax.proofs.Stating.{empty_params}
use Rattle.thrax_syntax.proofs.statements.params.Goals as goal

pub returns-in-Some-clause-exact : goal.returns-in-Some-clause-exact
returns-in-Some-clause-exact c = empty_params (map lex_of c.in-Some.rest.now) (map lex_of c.args.lexemes.now) c.new.result.items c.in-Some.ensures.found c.new.ensures.items
