use Rattle.std.proofs.Common.{ℕ, ◌<◌, get_or, []}
use Rattle.std.specs.List.Sorted.{IsNonDecreasingBy}
use Rattle.fst_core.proofs.fst.Fst.is_sorted.Given as goal

abbrev pub invariant-loop-s : goal.invariant-loop-s
invariant-loop-s l = (k : ℕ) → k < l.s → IsNonDecreasingBy (λ y. y.input) (get_or l.self.arcs k [])
