use Rattle.std.proofs.Common.{length, ◌≤◌, map}
use Rattle.thrax_lexer.specs.Lexemes.{lex_of}
use Rattle.thrax_lexer.proofs.Places.{Far}
use Rattle.thrax_lexer.proofs.reading.lex.Given as goal

abbrev pub invariant-loop-item : goal.invariant-loop-item
invariant-loop-item l = (l.nesting.depth ≤ 128) × Far l.text l.rest (map lex_of l.lexemes.items) l.nesting

abbrev pub decreases-loop-item : goal.decreases-loop-item
decreases-loop-item l = length l.rest
