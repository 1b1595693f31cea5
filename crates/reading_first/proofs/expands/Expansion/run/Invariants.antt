use Rattle.std.proofs.Common.{◌≡◌, ◌≤◌, ◌-◌, length}
use Rattle.state_table.specs.Numbers.{Keeps}
use Rattle.reading_first.specs.Expanding.{Expanding}
use Rattle.reading_first.proofs.expands.Expansion.run.Given as goal

abbrev pub invariant-loop-at : goal.invariant-loop-at
invariant-loop-at l = record {
  expanding : Expanding l.a l.self l.parts l.at 0;
  within : l.at ≤ length l.self.ways;
  same : l.self.from ≡ l.fn.self.from;
  keeps : Keeps l.fn.parts l.parts;
}

abbrev pub decreases-loop-at : goal.decreases-loop-at
decreases-loop-at l = l.room - l.at
