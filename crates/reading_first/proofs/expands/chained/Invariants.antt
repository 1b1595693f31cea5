use Rattle.std.proofs.Common.{◌<◌, ◌≤◌, ◌++◌, ℕ, List, [], length}
use Rattle.weighted_relations.specs.Graphs.{label}
use Rattle.weighted_relations.specs.Machines.{Machine}
use Rattle.state_table.specs.Numbers.{Keeps}
use Rattle.reading_first.specs.Shapes.{Fit, PartFits}
use Rattle.reading_first.specs.Expanding.{TextOf}
use Rattle.reading_first.proofs.Chains.{Left}
use Rattle.reading_first.proofs.expands.chained.Given as goal

abbrev pub invariant-loop-at : goal.invariant-loop-at
invariant-loop-at l = record {
  left : (u : List ℕ) → TextOf l.ways l.fn.from u → Left l.ways l.parts l.at l.first l.next (u ++ label l.fn.last []) l.fn.to;
  small : l.first ≤ 257;
  within : l.at < length l.ways;
  there : l.next < length l.parts;
  keeps : Keeps l.fn.parts l.parts;
  fit : (m : Machine) → Fit m l.fn.parts → ((n : ℕ) → PartFits m n l.fn.to) → Fit m l.parts;
}

abbrev pub decreases-loop-at : goal.decreases-loop-at
decreases-loop-at l = l.at
