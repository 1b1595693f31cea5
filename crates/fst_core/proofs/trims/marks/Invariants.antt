use Rattle.std.proofs.Common.{◌≡◌, ◌↔◌, ◌⊎◌, ◌<◌, ℕ, length}
use Rattle.std.specs.List.{Contains}
use Rattle.fst_core.specs.Useful.{IsKept}
use Rattle.fst_core.proofs.trims.marks.Given as goal

abbrev pub invariant-loop-s : goal.invariant-loop-s
invariant-loop-s l = record { count : length l.marks.items ≡ l.s; marks : (t : ℕ) → t < l.s → IsKept l.marks.items t ↔ ((t ≡ l.a.start) ⊎ (Contains l.ahead.states t × Contains l.live.states t)) }
