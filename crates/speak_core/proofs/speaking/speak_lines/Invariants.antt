use Rattle.std.proofs.Common.{◌≡◌, ◌-◌, ◌+◌, ◌^◌, length}
use Rattle.speak_core.specs.Crews.{IsCrewOf}
use Rattle.speak_core.specs.Intakes.{IsIntake}
use Rattle.speak_core.specs.Parts.{says_of}
use Rattle.speak_core.proofs.SoFar.{Ran}
use Rattle.speak_core.proofs.speaking.speak_lines.Given as goal

abbrev pub invariant-loop-intake : goal.invariant-loop-intake
invariant-loop-intake g l =
    IsCrewOf l.speaker.normaliser l.crew
    × (l.report.is_wanted ≡ l.initial.report.is_wanted)
    × (l.crew.settings ≡ l.initial.crew.settings)
    × IsIntake l.intake
    × Ran (says_of l.speaker) l.speaker.normaliser l.crew l.initial.report.is_wanted l.initial.crew.settings l.crew.swept l.initial.report.total l.report.total (g.S.Source.left l.initial.source) (g.S.Source.left l.source) l.intake l.report.lines l.is_read
    (g.O.Sink.held l.initial.out) (g.O.Sink.held l.out) (g.E.Sink.held l.initial.err) (g.E.Sink.held l.err) (g.O.Sink.faults l.initial.out) (g.O.Sink.faults l.out) (g.E.Sink.faults l.initial.err) (g.E.Sink.faults l.err)
    × (g.S.Source.faults l.source ≡ g.S.Source.faults l.initial.source)

abbrev pub decreases-loop-intake : goal.decreases-loop-intake
decreases-loop-intake g l = 2 ^ 28 + length l.intake.bytes.items - l.intake.given
