use Rattle.std.proofs.Common.{◌≡◌, length, map}
use Rattle.speak_core.specs.Parts.{tally_of}
use Rattle.speak_core.specs.Reports.{with_tallies}
use Rattle.speak_core.proofs.reports.add_all.Given as goal

abbrev pub invariant-loop-rest : goal.invariant-loop-rest
invariant-loop-rest l = with_tallies l.total (map tally_of l.rest) ≡ with_tallies l.initial.total (map tally_of l.heard)

abbrev pub decreases-loop-rest : goal.decreases-loop-rest
decreases-loop-rest l = length l.rest
