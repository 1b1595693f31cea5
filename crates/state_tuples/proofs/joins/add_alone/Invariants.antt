use Rattle.std.proofs.Common.{◌≡◌, ◌++◌, take}
use Rattle.std.specs.List.{filter_map}
use Rattle.state_tuples.specs.Stages.{alone_arc}
use Rattle.state_tuples.proofs.joins.add_alone.Given as goal

abbrev pub invariant-loop-y : goal.invariant-loop-y
invariant-loop-y l = l.all.items ≡ l.initial.all.items ++ filter_map (alone_arc l.asked) (take l.y-index l.row)
