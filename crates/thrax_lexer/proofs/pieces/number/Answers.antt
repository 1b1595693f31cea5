use Rattle.std.proofs.Common.{sym, arith, length, ◌<◌}
use Rattle.std.proofs.lemmas.Bool.{eqb-true, eqb-false}
use Rattle.thrax_lexer.proofs.Fronts.{number_takes, number_none, number_long, short_small}
use Rattle.thrax_lexer.proofs.pieces.number.Goals as goal
use Rattle.thrax_lexer.proofs.pieces.number.Goals.{then-is_empty-via-then-is_empty, then-is_empty-via-else-is_empty+then-digits-gt4}

pub returns-then-is_empty : goal.returns-then-is_empty
returns-then-is_empty c = elim c.then-is_empty.branch [
  | then-is_empty-via-then-is_empty w ↦ number_none c.args.text.now c.span.result.0.now c.span.result.1.now c.span.ensures (eqb-true (length c.span.result.0.now) 0 (sym w.if-is_empty.ensures))
  | then-is_empty-via-else-is_empty+then-digits-gt4 w ↦ number_long c.args.text.now c.span.result.0.now c.span.result.1.now c.span.ensures w.if-digits-gt4.true
]

pub returns-in_err-value : goal.returns-in_err-value
returns-in_err-value c = absurd (let h = short_small c.span.result.0.now c.if-digits-gt4.false in omega (arith, h, c.in_err-value.ensures.none))

pub returns : goal.returns
returns c =
    let h = eqb-false (length c.span.result.0.now) 0 (sym c.if-is_empty.ensures) in
    let k : 0 < length c.span.result.0.now = omega (arith, h) in
    number_takes c.args.text.now c.span.result.0.now c.span.result.1.now c.in_ok-value.value c.span.ensures k c.if-digits-gt4.false c.in_ok-value.ensures.value
