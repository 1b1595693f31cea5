use Rattle.std.proofs.Common.{length, take, ◌-◌, ◌≤◌}
use Rattle.string_files.proofs.Cuts.{HasNo}
use Rattle.string_files.proofs.fields.first_field.Given as goal

abbrev pub invariant-loop-at : goal.invariant-loop-at
invariant-loop-at l = (l.at ≤ length l.line) × HasNo 9 (take l.at l.line)

abbrev pub decreases-loop-at : goal.decreases-loop-at
decreases-loop-at l = length l.line - l.at
