use Rattle.std.proofs.Common.{length, ◌-◌, ◌≡◌, get_or}
use Rattle.merged_arcs.specs.Merged.{Run, none}
use Rattle.merged_arcs.proofs.rows.run_end.Given as goal

abbrev pub invariant-loop-to : goal.invariant-loop-to
invariant-loop-to l = record { run : Run l.arcs l.from l.to; first : l.first ≡ get_or l.arcs l.from none }

abbrev pub decreases-loop-to : goal.decreases-loop-to
decreases-loop-to l = length l.arcs - l.to
