use Rattle.std.proofs.Common.{sym, refl, arith}
use Rattle.thrax_lexer.specs.declared.bytes.Start.TheVariants.{Blank, Comment, Word, Symbol as Single, Nothing}
use Rattle.thrax_lexer.proofs.Fronts.{piece_takes, piece_misses, nothing_there, blank_takes, symbol_takes, comment_takes, word_takes, number_front, number_missed, weight_front, weight_missed, text_front, text_missed, quoted_front, quoted_missed}
use Rattle.thrax_lexer.proofs.pieces.piece.Goals as goal

pub returns-in_err-value-in-Number : goal.returns-in_err-value-in-Number
returns-in_err-value-in-Number c = rw c.from_residual-in_err-value-in-Number.ensures (number_missed c.args.text.now c.in_ok-first.rest.now c.in_ok-first.first c.in_ok-first.ensures.found c.in-Number.ensures c.in_err-value-in-Number.ensures)

pub returns-in_err-weight-in-Weight : goal.returns-in_err-weight-in-Weight
returns-in_err-weight-in-Weight c = rw c.from_residual-in_err-weight-in-Weight.ensures (weight_missed c.args.text.now c.in_ok-first.rest.now c.in_ok-first.first c.in_ok-first.ensures.found c.in-Weight.ensures c.in_err-weight-in-Weight.ensures)

pub returns-in_err-pieces-in-Text : goal.returns-in_err-pieces-in-Text
returns-in_err-pieces-in-Text c = rw c.from_residual-in_err-pieces-in-Text.ensures (text_missed c.args.text.now c.in_ok-first.rest.now c.in_ok-first.first c.in_ok-first.ensures.found c.in-Text.ensures c.in_err-pieces-in-Text.ensures)

pub returns-in_err-bytes-in-Quoted : goal.returns-in_err-bytes-in-Quoted
returns-in_err-bytes-in-Quoted c = rw c.from_residual-in_err-bytes-in-Quoted.ensures (quoted_missed c.args.text.now c.in_ok-first.rest.now c.in_ok-first.first c.in_ok-first.ensures.found c.in-Quoted.ensures c.in_err-bytes-in-Quoted.ensures)

pub returns-in-Blank : goal.returns-in-Blank
returns-in-Blank c = piece_takes c.args.text.now c.in_ok-first.rest.now _ c.in_ok-first.first Blank _ c.in_ok-first.ensures.found (sym c.in-Blank.ensures) (blank_takes c.in_ok-first.first c.in_ok-first.rest.now)

pub returns-in-Comment : goal.returns-in-Comment
returns-in-Comment c = piece_takes c.args.text.now c.in_ok-first.rest.now _ c.in_ok-first.first Comment _ c.in_ok-first.ensures.found (sym c.in-Comment.ensures) (comment_takes c.in_ok-first.first c.in_ok-first.rest.now c.span.result.0.now c.span.result.1.now c.span.ensures)

pub returns-in-Word : goal.returns-in-Word
returns-in-Word c =
    piece_takes c.args.text.now c.in_ok-first.rest.now _ c.in_ok-first.first Word _ c.in_ok-first.ensures.found (sym c.in-Word.ensures)
    (word_takes c.args.text.now c.in_ok-first.first c.in_ok-first.rest.now c.span-in-Word.result.0.now c.span-in-Word.result.1.now _ _ c.in_ok-first.ensures.found c.span-in-Word.ensures (omega arith) c.word_lexeme.ensures)

pub returns-in_ok-value-in-Number : goal.returns-in_ok-value-in-Number
returns-in_ok-value-in-Number c = number_front c.args.text.now c.in_ok-first.rest.now _ c.in_ok-first.first c.in_ok-value-in-Number.value c.in_ok-first.ensures.found c.in-Number.ensures c.in_ok-value-in-Number.ensures

pub returns-in_ok-weight-in-Weight : goal.returns-in_ok-weight-in-Weight
returns-in_ok-weight-in-Weight c = weight_front c.args.text.now c.in_ok-first.rest.now _ c.in_ok-first.first c.in_ok-weight-in-Weight.weight c.in_ok-first.ensures.found c.in-Weight.ensures c.in_ok-weight-in-Weight.ensures

pub returns-in_ok-pieces-in-Text : goal.returns-in_ok-pieces-in-Text
returns-in_ok-pieces-in-Text c = text_front c.args.text.now c.in_ok-first.rest.now _ c.in_ok-pieces-in-Text.pieces.now c.in_ok-first.first c.in_ok-first.ensures.found c.in-Text.ensures c.in_ok-pieces-in-Text.ensures

pub returns-in_ok-bytes-in-Quoted : goal.returns-in_ok-bytes-in-Quoted
returns-in_ok-bytes-in-Quoted c = quoted_front c.args.text.now c.in_ok-first.rest.now _ c.in_ok-bytes-in-Quoted.bytes.now c.in_ok-first.first c.in_ok-first.ensures.found c.in-Quoted.ensures c.in_ok-bytes-in-Quoted.ensures
