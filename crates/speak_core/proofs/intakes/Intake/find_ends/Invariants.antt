use Rattle.std.proofs.Common.{◌≡◌, ◌-◌}
use Rattle.speak_core.specs.Intakes.{IsIntake}
use Rattle.speak_core.proofs.intakes.Intake.find_ends.Given as goal

abbrev pub invariant-loop-self : goal.invariant-loop-self
invariant-loop-self l = IsIntake l.self × (l.self.bytes ≡ l.initial.self.bytes) × (l.self.given ≡ l.initial.self.given)

abbrev pub decreases-loop-self : goal.decreases-loop-self
decreases-loop-self l = 1024 - l.self.lines
