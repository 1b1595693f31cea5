use Rattle.std.proofs.Common.{◌≡◌, ◌<◌, ◌≤◌, ◌-◌, ℕ, length, Some}
use Rattle.std.specs.Prelude.{slice_get}
use Rattle.weighted_relations.specs.declared.Arc.{Arc}
use Rattle.lexicon_trees.specs.Shapes.{Before}
use Rattle.lexicon_trees.proofs.rows.split.Given as goal

abbrev pub invariant-loop-low : goal.invariant-loop-low
invariant-loop-low l = record {
  order : l.low ≤ l.high;
  within : l.high ≤ length l.row;
  below : (k : ℕ) (a : Arc) → k < l.low → slice_get l.row k ≡ Some a → Before a.input a.output l.input l.output;
  above : (k : ℕ) (a : Arc) → l.high ≤ k → slice_get l.row k ≡ Some a → Before a.input a.output l.input l.output → ⊥;
}

abbrev pub decreases-loop-low : goal.decreases-loop-low
decreases-loop-low l = l.high - l.low
