use Rattle.std.proofs.Common.{◌<◌, map, length}
use Rattle.thrax_lexer.specs.Lexemes.{lex_of}
use Rattle.text_forms.proofs.Chains.{Stands}
use Rattle.thrax_syntax.specs.Statements.{Defined}
use Rattle.thrax_syntax.specs.Trees.{local_term}
use Rattle.thrax_syntax.proofs.statements.locals.Given as goal

abbrev pub invariant-loop-locals : goal.invariant-loop-locals
invariant-loop-locals l = (length l.rest < length l.fn.lexemes) × Stands Defined (map lex_of l.initial.rest) (map local_term l.locals.items) (map lex_of l.rest)

abbrev pub decreases-loop-locals : goal.decreases-loop-locals
decreases-loop-locals l = length l.rest
