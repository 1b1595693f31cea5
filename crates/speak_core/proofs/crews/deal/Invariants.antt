use Rattle.std.proofs.Common.{◌≡◌, [], length, map}
use Rattle.speak_core.specs.Crews.{AreShares}
use Rattle.speak_core.specs.Parts.{lines_of}
use Rattle.speak_core.proofs.crews.deal.Given as goal

abbrev pub invariant-loop-caller : goal.invariant-loop-caller
invariant-loop-caller l =
    (goal.iterator-loop-caller).can_next l.caller-iterator
    × (goal.iterator-loop-caller).is_finite l.caller-iterator
    × (l.worker ≡ length l.shares.items)
    × (map (λ s. s.caller) l.shares.items ≡ l.yielded)
    × AreShares l.initial.crew.settings.jobs l.initial.crew.settings.sweep l.first (lines_of l.lines) l.shares.items
    × (l.crew.callers.items ≡ [])
    × (l.crew.settings ≡ l.initial.crew.settings)
    × (l.crew.swept ≡ l.initial.crew.swept)
