use Rattle.std.proofs.Common.{◌≡◌, ◌≤◌, length, Some}
use Rattle.std.specs.Prelude.{slice_get, get_or}
use Rattle.state_table.specs.Numbers.{Keeps}
use Rattle.reading_first.specs.Expanding.{Expanding, standing}
use Rattle.reading_first.proofs.expands.Expansion.follow_all.Given as goal

abbrev pub invariant-loop-j : goal.invariant-loop-j
invariant-loop-j l = record {
  expanding : Expanding l.a l.self l.parts l.fn.at l.j;
  there : slice_get l.self.ways l.fn.at ≡ Some (get_or l.fn.self.ways l.fn.at (standing 0));
  more : length l.fn.self.ways ≤ length l.self.ways;
  same : l.self.from ≡ l.fn.self.from;
  keeps : Keeps l.fn.parts l.parts;
}
