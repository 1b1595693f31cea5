use Rattle.std.proofs.Common.{length, ◌-◌, ◌≤◌}
use Rattle.merged_arcs.specs.Merged.{AllApart, RowMade}
use Rattle.merged_arcs.proofs.Parting.{Parted}
use Rattle.merged_arcs.proofs.Runs.{Among}
use Rattle.merged_arcs.proofs.rows.merged_row.Given as goal

abbrev pub invariant-loop-from : goal.invariant-loop-from
invariant-loop-from l = record { within : l.from ≤ length l.arcs; made : RowMade (Among l.arcs l.from) l.initial.sets l.sets l.row.items; apart : AllApart l.row.items; parted : Parted l.arcs l.from }

abbrev pub decreases-loop-from : goal.decreases-loop-from
decreases-loop-from l = length l.arcs - l.from
