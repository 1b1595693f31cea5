use Rattle.std.specs.Prelude.{ℕ, ◌-◌}
use Rattle.weighted_relations.specs.Machines.{WellFormed}
use Rattle.state_tuples.specs.Cascades.{Cascaded}
use Rattle.least_path.specs.Standings.{settled_count}
use Rattle.least_path.specs.Starting.{StartsAt}
use Rattle.least_path.specs.Counting.{ReadsAtLeast}
use Rattle.least_path.specs.Paying.{ArePaid}
use Rattle.least_path.proofs.Rounds.{Runs}
use Rattle.least_path.proofs.Wholes.{all_most}
use Rattle.least_path.proofs.searching.least_by_queue.Given as goal

abbrev pub invariant-loop-entry : goal.invariant-loop-entry
invariant-loop-entry g l = record {
  sound : WellFormed l.source;
  runs : (c : Cascaded) → StartsAt (g.X.Expander.cascades l.fn.x) l.start c → Runs l.source c l.search;
  ready : g.X.Expander.is_ready l.x;
  on : g.X.Expander.goes_on l.fn.x l.x;
  paid : (n : ℕ) → ReadsAtLeast l.source n → ArePaid l.source n (g.X.Expander.calls l.fn.x) (g.X.Expander.calls l.x) l.search.nodes;
}

abbrev pub decreases-loop-entry : goal.decreases-loop-entry
decreases-loop-entry g l = all_most l.source (g.X.Expander.cascades l.fn.x) - settled_count l.search.standings.items
