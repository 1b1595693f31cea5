use Rattle.std.proofs.Common.{ℕ, ◌<◌}
use Rattle.look_ahead.specs.Aheads.{IsClosedAt}
use Rattle.look_ahead.proofs.checking.is_closed.Given as goal

abbrev pub invariant-loop-s : goal.invariant-loop-s
invariant-loop-s l = (k : ℕ) → k < l.s → IsClosedAt l.m l.sets k
