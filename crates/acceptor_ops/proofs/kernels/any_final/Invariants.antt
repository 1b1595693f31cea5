use Rattle.std.proofs.Common.{ℕ, ◌<◌, get_or}
use Rattle.std.specs.Prelude.{IsSome}
use Rattle.weighted_relations.specs.Machines.{final_of}
use Rattle.acceptor_ops.proofs.kernels.any_final.Given as goal

abbrev pub invariant-loop-s : goal.invariant-loop-s
invariant-loop-s l = (j : ℕ) → j < l.s-index → IsSome (final_of l.a.finals (get_or l.set j 0)) → ⊥
