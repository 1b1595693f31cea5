use Rattle.std.specs.Prelude.{◌≡◌, ◌≤◌, ◌<◌, ℕ}
use Rattle.acceptor_ops.specs.Tables.{step_of}
use Rattle.rewrite_rules.proofs.lives.leads_on.Given as goal

abbrev pub invariant-loop-byte : goal.invariant-loop-byte
invariant-loop-byte l = (c : ℕ) → 1 ≤ c → c < l.byte → step_of l.d l.s c ≡ l.s
