use Rattle.std.proofs.Common.{◌≡◌, sym, ap, refl, arith, map, length, ◌<◌}
use Rattle.thrax_lexer.specs.Lexemes.{lex_of, lexed}
use Rattle.thrax_lexer.proofs.Fronts.{piece_shorter}
use Rattle.thrax_lexer.proofs.Places.{far_begin, far_step, far_end, far_stop, fails_as}
use Rattle.thrax_lexer.proofs.reading.lex.Goals as goal

pub loop-item-init : goal.loop-item-init
loop-item-init c = (omega arith, far_begin c.args.text.now (map lex_of c.new-lexemes.result.items) (ap (map lex_of) c.new-lexemes.ensures.items))

pub loop-item-smaller : goal.loop-item-smaller
loop-item-smaller c = piece_shorter c.loop-item.rest.now c.in-Some.after.now (lexed c.in-Some.item) c.in-Some.ensures.found

pub loop-item-preserved : goal.loop-item-preserved
loop-item-preserved c = (
  c.nested-nesting.ensures.low,
  far_step c.args.text.now c.loop-item.rest.now c.in-Some.after.now (map lex_of c.loop-item.lexemes.items) (map lex_of c.keep.new.found.items) c.loop-item.nesting c.nested-nesting.result _ (lexed c.in-Some.item) c.loop-item.invariant.1 c.in-Some.ensures
      (piece_shorter c.loop-item.rest.now c.in-Some.after.now (lexed c.in-Some.item) c.in-Some.ensures.found) refl c.in_ok-keep.ensures c.nested-nesting.ensures.next,
)

pub returns-in_default-front_byte : goal.returns-in_default-front_byte
returns-in_default-front_byte c = far_end c.args.text.now c.loop-item.rest.now (map lex_of c.loop-item.lexemes.items) c.loop-item.nesting c.loop-item.invariant.1 c.in_default.ensures c.in_default-front_byte.ensures.none

pub returns : goal.returns
returns c =
    fails_as c.args.text.now c.fault.result
    (far_stop c.args.text.now c.loop-item.rest.now c.in-Some-front_byte.field-0-1.now (map lex_of c.loop-item.lexemes.items) c.loop-item.nesting c.in-Some-front_byte.first _ c.fault.result c.loop-item.invariant.1 c.in_default.ensures c.in-Some-front_byte.ensures.found refl c.fault.ensures)
