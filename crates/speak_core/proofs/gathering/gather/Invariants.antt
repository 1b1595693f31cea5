use Rattle.std.proofs.Common.{◌≡◌, ◌+◌, ◌-◌, false, length}
use Rattle.speak_core.specs.Crews.{AllHear}
use Rattle.speak_core.specs.Parts.{lines_of, says_of}
use Rattle.speak_core.specs.declared.speakers.Speaker.{Speaker}
use Rattle.speak_core.proofs.Dealing.{AreTaken, Gathered}
use Rattle.speak_core.proofs.gathering.gather.Given as goal

abbrev pub invariant-loop-line : goal.invariant-loop-line
invariant-loop-line l =
    ((s : Speaker) → AllHear (says_of s) l.jobs (l.first - 1) (lines_of l.lines) l.initial.queues → Gathered (says_of s) l.jobs (l.first - 1) (lines_of l.lines) l._line-index l.answers.all.items l.queues)
    × (l.before ≡ (l.first - 1) + l._line-index)
    × (length l.queues ≡ length l.initial.queues)
    × (l.answers.is_whole ≡ false)
    × AreTaken l.jobs (l.first - 1) l.answers.all.items l.initial.queues l.queues
    × (length l.answers.all.items ≡ l._line-index)
