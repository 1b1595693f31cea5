use Rattle.std.proofs.Common.{◌-◌, ◌^◌, ◌≤◌, length}
use Rattle.merged_arcs.proofs.Building.{Building}
use Rattle.merged_arcs.proofs.merges.of_sets.Given as goal

abbrev pub invariant-loop-alloc : goal.invariant-loop-alloc
invariant-loop-alloc l = record { built : Building l.a l.start l.sets l.built; few : length l.built.arcs ≤ l.most }

abbrev pub decreases-loop-alloc : goal.decreases-loop-alloc
decreases-loop-alloc l = 2 ^ 63 - length l.built.arcs
