use Rattle.std.proofs.Common.{map, rules}
use Rattle.thrax_lexer.specs.Lexemes.{lex_of}
use Rattle.thrax_syntax.proofs.Marks.{star_takes, plus_takes, question_takes}
use Rattle.thrax_syntax.proofs.operators.front_repeat.Goals as goal

pub returns-in-Star-clause-exact : goal.returns-in-Star-clause-exact
returns-in-Star-clause-exact c = star_takes (map lex_of c.args.lexemes.now) (map lex_of c.in_ok-first.rest.now) (search rules)

pub returns-in-Plus-clause-exact : goal.returns-in-Plus-clause-exact
returns-in-Plus-clause-exact c = plus_takes (map lex_of c.args.lexemes.now) (map lex_of c.in_ok-first.rest.now) (search rules)

pub returns-in-Question-clause-exact : goal.returns-in-Question-clause-exact
returns-in-Question-clause-exact c = question_takes (map lex_of c.args.lexemes.now) (map lex_of c.in_ok-first.rest.now) (search rules)
