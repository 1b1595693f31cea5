use Rattle.std.proofs.Common.{◌≤◌, ◌+◌, map, length, vec_len}
use Rattle.thrax_lexer.specs.Lexemes.{lex_of}
use Rattle.text_forms.proofs.Chains.{Stands}
use Rattle.thrax_syntax.specs.Statements.{Stated}
use Rattle.thrax_syntax.specs.Trees.{statement_term}
use Rattle.thrax_syntax.proofs.files.statements.Given as goal

abbrev pub invariant-loop-found : goal.invariant-loop-found
invariant-loop-found l = (length l.rest + vec_len l.found ≤ length l.fn.lexemes) × Stands Stated (map lex_of l.fn.lexemes) (map statement_term l.found.items) (map lex_of l.rest)

abbrev pub decreases-loop-found : goal.decreases-loop-found
decreases-loop-found l = length l.rest
