use Rattle.std.proofs.Common.{◌≡◌, ◌++◌, take}
use Rattle.compose_filter.specs.Steps.{both_steps}
use Rattle.compose_filter.proofs.steps.add_both.Given as goal

abbrev pub invariant-loop-x : goal.invariant-loop-x
invariant-loop-x g l = l.all.items ≡ l.initial.all.items ++ both_steps g.J.Joining.step (g.J.Joining.pair l.joining) g.J.Joining.made (take l.x-index l.left) l.row
