use Rattle.std.proofs.Common.{◌∙◌, ap, arith, drop}
use Rattle.text_forms.specs.Numbers.{digit_value}
use Rattle.text_forms.proofs.Digits.{value_grows, value_past}
use Rattle.text_forms.proofs.numbers.value_below.Goals as goal

pub returns-then-value-limit-clause-none : goal.returns-then-value-limit-clause-none
returns-then-value-limit-clause-none c = omega (arith, value_grows c.args.base c.args.first c.args.digits.now c.requires.based)

pub returns-then-value-limit-2-clause-none : goal.returns-then-value-limit-2-clause-none
returns-then-value-limit-2-clause-none c =
    value_past c.args.base c.loop-b.value c.loop-b.b-index c.from.result _ c.args.digits.now c.args.limit c.requires.based c.loop-b-test.true c.if-value-limit-2.true (c.from.ensures ∙ c.digit_value.ensures.value) c.loop-b.invariant.1
