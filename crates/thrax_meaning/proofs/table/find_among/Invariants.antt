use Rattle.std.proofs.Common.{◌≡◌, ◌≤◌, List, take}
use Rattle.norm_base.specs.Files.{Files}
use Rattle.thrax_meaning.specs.Meaning.{Scope, found}
use Rattle.thrax_meaning.specs.Tables.{scope_of, weight}
use Rattle.thrax_meaning.proofs.table.find_among.Given as goal

abbrev pub invariant-loop-at : goal.invariant-loop-at
invariant-loop-at l = record {
  same : (f : Files) → (done : List Scope) → found (scope_of f done (take l.at l.entries)) l.name ≡ found (scope_of f done (take l.count l.entries)) l.name;
  lighter : weight (take l.at l.entries) ≤ weight (take l.count l.entries);
  within : l.at ≤ l.count;
}

abbrev pub decreases-loop-at : goal.decreases-loop-at
decreases-loop-at l = l.at
