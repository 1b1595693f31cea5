use Rattle.std.proofs.Common.{sym, arith, length, ◌<◌}
use Rattle.std.proofs.lemmas.Bool.{eqb-true, eqb-false}
use Rattle.thrax_lexer.proofs.Fronts.{quoted_takes, quoted_open, quoted_empty}
use Rattle.thrax_lexer.proofs.pieces.quoted.Goals as goal

pub returns-in_err-rest : goal.returns-in_err-rest
returns-in_err-rest c = rw c.from_residual.ensures (quoted_open c.args.text.now c.span.result.0.now c.span.result.1.now c.span.ensures c.in_err-rest.ensures.none)

pub returns-then-is_empty : goal.returns-then-is_empty
returns-then-is_empty c = quoted_empty c.args.text.now c.span.result.0.now c.span.result.1.now c.span.ensures (eqb-true (length c.span.result.0.now) 0 (sym c.if-is_empty.ensures))

pub returns-else-is_empty : goal.returns-else-is_empty
returns-else-is_empty c =
    let h = eqb-false (length c.span.result.0.now) 0 (sym c.if-is_empty.ensures) in
    let k : 0 < length c.span.result.0.now = omega (arith, h) in
    quoted_takes c.args.text.now c.span.result.0.now c.span.result.1.now c.in_ok-rest.rest.now c.span.ensures c.in_ok-rest.ensures.found k
