use Rattle.std.proofs.Common.{arith, rules, ◌<◌, ◌^◌}
use Rattle.thrax_lexer.proofs.Fronts.{weight_takes, weight_open, weight_wrong}
use Rattle.thrax_lexer.proofs.pieces.weight.Goals as goal

pub returns-in_err-rest : goal.returns-in_err-rest
returns-in_err-rest c = rw c.from_residual.ensures (weight_open c.args.text.now c.span.result.0.now c.span.result.1.now c.span.ensures c.in_err-rest.ensures.none)

pub returns-in_err-decimal : goal.returns-in_err-decimal
returns-in_err-decimal c = rw c.from_residual-in_err-decimal.ensures (weight_wrong c.args.text.now c.span.result.0.now c.span.result.1.now c.span.ensures c.in_err-decimal.ensures.none)

pub returns : goal.returns
returns c = weight_takes c.args.text.now c.span.result.0.now c.span.result.1.now c.in_ok-rest.rest.now c.in_ok-decimal.field-0 c.span.ensures c.in_ok-rest.ensures.found c.in_ok-decimal.ensures.found (search rules)
