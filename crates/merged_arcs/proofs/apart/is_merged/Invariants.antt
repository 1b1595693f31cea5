use Rattle.std.proofs.Common.{ℕ, ◌<◌, [], get_or}
use Rattle.merged_arcs.specs.Merged.{AllApart}
use Rattle.merged_arcs.proofs.apart.is_merged.Given as goal

abbrev pub invariant-loop-s : goal.invariant-loop-s
invariant-loop-s l = (s : ℕ) → s < l.s → AllApart (get_or l.a.arcs s [])
