use Rattle.std.proofs.Common.{refl}
use Rattle.text_forms.proofs.Digits.{whole_wide, read_wide}
use Rattle.text_forms.proofs.numbers.weight_of.Goals as goal

pub returns-in_err-whole-clause-none : goal.returns-in_err-whole-clause-none
returns-in_err-whole-clause-none c = rw c.from_residual.ensures (whole_wide c.args.digits.now c.args.places.now (c.in_err-whole.ensures.none))

pub returns-in_err-read-clause-none : goal.returns-in_err-read-clause-none
returns-in_err-read-clause-none c = rw c.from_residual-in_err-read.ensures (read_wide c.args.digits.now c.args.places.now c.in_ok-whole.whole c.in_ok-whole.ensures.value c.in_err-read.ensures.none)
