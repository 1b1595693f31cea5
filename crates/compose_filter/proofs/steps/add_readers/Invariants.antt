use Rattle.std.proofs.Common.{◌≡◌, ◌++◌, take}
use Rattle.std.specs.List.{filter_map}
use Rattle.compose_filter.specs.Steps.{both_step}
use Rattle.compose_filter.proofs.steps.add_readers.Given as goal

abbrev pub invariant-loop-y : goal.invariant-loop-y
invariant-loop-y g l = l.all.items ≡ l.initial.all.items ++ filter_map (both_step g.J.Joining.step (g.J.Joining.pair l.joining) g.J.Joining.made l.x) (take l.y-index l.row)
