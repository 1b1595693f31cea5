use Rattle.std.proofs.Common.{◌≡◌, take}
use Rattle.std.specs.Prelude.{map}
use Rattle.fst_core.specs.Placed.{placed_arc}
use Rattle.fst_core.proofs.builder.placed.Given as goal

abbrev pub invariant-loop-a : goal.invariant-loop-a
invariant-loop-a l = l.arcs.items ≡ map (placed_arc l.off l.input l.output) (take l.a-index l.row)
