use Rattle.std.proofs.Common.{◌≡◌, ℕ, ◌<◌, true}
use Rattle.look_ahead.specs.Aheads.{may}
use Rattle.look_ahead.proofs.checking.has_all.Given as goal

abbrev pub invariant-loop-label : goal.invariant-loop-label
invariant-loop-label l = (k : ℕ) → k < l.label → may l.sets l.t k ≡ true → may l.sets l.s k ≡ true
