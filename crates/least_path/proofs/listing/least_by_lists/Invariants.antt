use Rattle.std.specs.Prelude.{ℕ, ◌-◌, ◌^◌}
use Rattle.weighted_relations.specs.Machines.{WellFormed}
use Rattle.state_tuples.specs.Cascades.{Cascaded}
use Rattle.least_path.specs.Starting.{StartsAt}
use Rattle.least_path.specs.Counting.{HasRisen, ReadsAtLeast}
use Rattle.least_path.specs.Paying.{ArePaid}
use Rattle.least_path.proofs.Corrections.{Runs}
use Rattle.least_path.proofs.listing.least_by_lists.Given as goal

abbrev pub invariant-loop-number : goal.invariant-loop-number
invariant-loop-number g l = record {
  sound : WellFormed l.source;
  runs : (c : Cascaded) → StartsAt (g.X.Expander.cascades l.fn.x) l.start c → Runs l.source c l.search l.search.lists l.taken;
  ready : g.X.Expander.is_ready l.x;
  on : g.X.Expander.goes_on l.fn.x l.x;
  risen : HasRisen 0 (g.X.Expander.calls l.fn.x) (g.X.Expander.calls l.x);
  paid : (n : ℕ) → ReadsAtLeast l.source n → ArePaid l.source n (g.X.Expander.calls l.fn.x) (g.X.Expander.calls l.x) l.search.nodes;
}

abbrev pub decreases-loop-number : goal.decreases-loop-number
decreases-loop-number g l = 2 ^ 64 - l.taken
