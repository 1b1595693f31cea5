use Rattle.std.proofs.Common.{◌≡◌, map}
use Rattle.speak_core.proofs.crews.take_back.Given as goal

abbrev pub invariant-loop-done : goal.invariant-loop-done
invariant-loop-done l =
    (goal.iterator-loop-done).can_next l.done-iterator
    × (goal.iterator-loop-done).is_finite l.done-iterator
    × (l.crew.callers.items ≡ map (λ d. d.caller) l.yielded)
    × (l.queues.items ≡ map (λ d. d.heard) l.yielded)
    × (l.crew.settings ≡ l.initial.crew.settings)
    × (l.crew.swept ≡ l.initial.crew.swept)
