use Rattle.std.proofs.Common.{◌≡◌, false, take}
use Rattle.std.specs.List.{list_any}
use Rattle.weighted_relations.specs.Expressions.{is_marked}
use Rattle.core_expressions.specs.Views.{expression_of}
use Rattle.core_expressions.proofs.+marked.Given as goal

abbrev pub invariant-marks::some_marked-loop-part : goal.invariant-marks::some_marked-loop-part
invariant-marks::some_marked-loop-part l = list_any (λ e. is_marked (expression_of e)) (take l.part-index l.parts) ≡ false
