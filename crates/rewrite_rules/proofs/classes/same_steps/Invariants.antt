use Rattle.std.proofs.Common.{◌≡◌, ◌<◌, ℕ}
use Rattle.acceptor_ops.specs.Tables.{step_of}
use Rattle.rewrite_rules.proofs.classes.same_steps.Given as goal

abbrev pub invariant-loop-s : goal.invariant-loop-s
invariant-loop-s l = (s : ℕ) → s < l.s → step_of l.d s l.a ≡ step_of l.d s l.b
