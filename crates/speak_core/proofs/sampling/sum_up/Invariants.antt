use Rattle.std.proofs.Common.{◌≡◌, ◌≤◌, ◌<◌, ◌-◌, ◌^◌}
use Rattle.speak_core.specs.Crews.{IsCrewOf}
use Rattle.speak_core.specs.Parts.{says_of}
use Rattle.speak_core.proofs.Sums.{SummedBy}
use Rattle.speak_core.proofs.Sweeping.{SweptSoFar}
use Rattle.speak_core.proofs.sampling.sum_up.Given as goal

abbrev pub invariant-loop-done : goal.invariant-loop-done
invariant-loop-done g l =
    SummedBy (says_of l.speaker) l.speaker.normaliser l.crew l.initial.report.is_wanted l.initial.report.total l.report.total l.start l.done l.state l.summary (g.E.Sink.held l.initial.err) (g.E.Sink.held l.err) (g.E.Sink.faults l.initial.err) (g.E.Sink.faults l.err)
    × (l.done ≤ l.count)
    × (l.state < 2 ^ 31)
    × (l.report.is_wanted ≡ l.initial.report.is_wanted)
    × IsCrewOf l.speaker.normaliser l.crew
    × (l.crew.settings ≡ l.initial.crew.settings)
    × SweptSoFar l.initial.crew.settings l.done (l.count - l.done) l.crew.swept

abbrev pub decreases-loop-done : goal.decreases-loop-done
decreases-loop-done g l = l.count - l.done
