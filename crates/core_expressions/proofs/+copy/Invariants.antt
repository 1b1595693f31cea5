use Rattle.std.proofs.Common.{◌≡◌, take, map}
use Rattle.core_expressions.specs.Views.{expression_of}
use Rattle.core_expressions.proofs.+copy.Given as goal

abbrev pub invariant-copies::copy_each-loop-part : goal.invariant-copies::copy_each-loop-part
invariant-copies::copy_each-loop-part l = map expression_of l.copies.items ≡ map expression_of (take l.part-index l.parts)
