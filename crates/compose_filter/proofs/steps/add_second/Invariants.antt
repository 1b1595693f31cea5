use Rattle.std.proofs.Common.{◌≡◌, ◌++◌, take}
use Rattle.std.specs.List.{filter_map}
use Rattle.compose_filter.specs.Steps.{second_step}
use Rattle.compose_filter.proofs.steps.add_second.Given as goal

abbrev pub invariant-loop-y : goal.invariant-loop-y
invariant-loop-y g l = l.all.items ≡ l.initial.all.items ++ filter_map (second_step g.J.Joining.step (g.J.Joining.pair l.joining) g.J.Joining.made l.at) (take l.y-index l.y-items)
