use Rattle.std.proofs.Common.{◌≡◌}
use Rattle.fst_core.specs.Useful.{FinalsFound}
use Rattle.fst_core.proofs.lives.add_finals.Given as goal

abbrev pub invariant-loop-s : goal.invariant-loop-s
invariant-loop-s l = record {
  size : l.search.size ≡ l.initial.search.size;
  found : FinalsFound l.a l.s l.initial.search.states l.search.states;
}
