use Rattle.std.proofs.Common.{◌≡◌, ◌+◌, ◌-◌, ◌*◌, ◌^◌, ℕ, List, Option, length}
use Rattle.speak_core.specs.Intakes.{GaveWithin, Holds, IsIntake, line_feeds}
use Rattle.speak_core.proofs.intakes.Intake.fill.Given as goal

abbrev pub invariant-loop-self : goal.invariant-loop-self
invariant-loop-self g l =
    IsIntake l.self
    × ((start : Option (List ℕ)) (handled : List ℕ) → Holds start (g.S.Source.left l.initial.source) handled l.initial.self → Holds start (g.S.Source.left l.source) handled l.self)
    × ((start : Option (List ℕ)) (handled : List ℕ) (batches : ℕ) → Holds start (g.S.Source.left l.initial.source) handled l.initial.self → line_feeds handled ≡ 1024 * batches
    → GaveWithin (1024 * (batches + 1)) start (g.S.Source.left l.initial.source) → GaveWithin (1024 * (batches + 1)) start (g.S.Source.left l.source))
    × (g.S.Source.faults l.source ≡ g.S.Source.faults l.initial.source)
    × (length l.piece ≡ 65536)

abbrev pub decreases-loop-self : goal.decreases-loop-self
decreases-loop-self g l = 2 ^ 28 - l.self.given
