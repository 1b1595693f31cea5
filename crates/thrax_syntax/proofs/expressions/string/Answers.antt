use Rattle.std.proofs.Common.{sym, map}
use Rattle.thrax_lexer.specs.Lexemes.{lex_of}
use Rattle.thrax_syntax.proofs.Keeping.{reads_as}
use Rattle.thrax_syntax.proofs.Parts.{text_reads}
use Rattle.thrax_syntax.proofs.expressions.string.Goals as goal

pub returns-in-Some-2-clause-exact : goal.returns-in-Some-2-clause-exact
returns-in-Some-2-clause-exact c =
    reads_as (sym c.text.ensures)
    (text_reads (map lex_of c.in-Some.rest.now) (map lex_of c.args.lexemes.now) c.in-Some.pieces.now c.in-Some-2.labels.items c.in-Some.ensures.found
    (rw c.in-Some-2.is at c.in_ok-labels.ensures.found) (rw c.in-Some-2.is at c.in_ok-labels.ensures.only))
