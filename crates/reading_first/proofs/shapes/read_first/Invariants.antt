use Rattle.std.proofs.Common.{◌-◌, ◌^◌, ◌≤◌, length}
use Rattle.reading_first.proofs.Building.{SoFar}
use Rattle.reading_first.proofs.shapes.read_first.Given as goal

abbrev pub invariant-loop-alloc : goal.invariant-loop-alloc
invariant-loop-alloc l = record { built : SoFar l.a l.start l.parts l.built; few : length l.built.arcs ≤ l.limit }

abbrev pub decreases-loop-alloc : goal.decreases-loop-alloc
decreases-loop-alloc l = 2 ^ 63 - length l.built.arcs
