use Rattle.std.proofs.Common.{◌≡◌, ◌++◌, take}
use Rattle.std.specs.List.{filter_map}
use Rattle.compose_filter.specs.Steps.{first_step}
use Rattle.compose_filter.proofs.steps.add_first.Given as goal

abbrev pub invariant-loop-x : goal.invariant-loop-x
invariant-loop-x g l = l.all.items ≡ l.initial.all.items ++ filter_map (first_step g.J.Joining.step (g.J.Joining.pair l.joining) g.J.Joining.made l.q l.filter) (take l.x-index l.left)
