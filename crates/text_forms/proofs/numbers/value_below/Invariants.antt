use Rattle.std.proofs.Common.{◌≡◌, ◌<◌, drop}
use Rattle.text_forms.specs.Numbers.{value_from}
use Rattle.text_forms.proofs.numbers.value_below.Given as goal

abbrev pub invariant-loop-b : goal.invariant-loop-b
invariant-loop-b l = (l.value < l.limit) × (value_from l.base l.value (drop l.b-index l.digits) ≡ value_from l.base l.first l.digits)
