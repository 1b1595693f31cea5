use Rattle.std.proofs.Common.{◌≡◌, ◌<◌, ℕ, get_or}
use Rattle.search_tests.specs.declared.entries.Pair.{Pair}
use Rattle.search_tests.proofs.entries.is_settled.Given as goal

abbrev pub invariant-loop-p : goal.invariant-loop-p
invariant-loop-p l = (k : ℕ) (d : Pair) → k < l.p-index → get_or l.settled k d ≡ l.pair → ⊥
