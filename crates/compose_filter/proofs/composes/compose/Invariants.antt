use Rattle.std.proofs.Common.{◌-◌, ◌^◌, length}
use Rattle.compose_filter.proofs.Exploring.{SoFar}
use Rattle.compose_filter.proofs.composes.compose.Given as goal

abbrev pub invariant-loop-sorted : goal.invariant-loop-sorted
invariant-loop-sorted l = SoFar l.a l.b l.triples l.built

abbrev pub decreases-loop-sorted : goal.decreases-loop-sorted
decreases-loop-sorted l = 2 ^ 63 - length l.built.arcs
