use Rattle.std.proofs.Common.{take}
use Rattle.state_tuples.specs.Calls.{IsKnown}
use Rattle.least_path.specs.Texts.{Grows}
use Rattle.least_path.specs.Growths.{AlongArcs}
use Rattle.least_path.specs.declared.node.Node.TheVariants.{At}
use Rattle.least_path.specs.Paying.{Pays}
use Rattle.least_path.specs.Relaxing.{Kept, GainedFrom}
use Rattle.least_path.proofs.spreading.spread_all.Given as goal

abbrev pub invariant-loop-arc : goal.invariant-loop-arc
invariant-loop-arc g l = record {
  kept : Kept l.search;
  texts : Grows l.initial.search.outputs l.search.outputs;
  gained : GainedFrom l.source (g.X.Expander.cascades l.fn.x) l.tuple l.initial.search l.search l.from (λ c. AlongArcs c l.tuple (take l.arc-index l.arc-items));
  ready : g.X.Expander.is_ready l.x;
  known : IsKnown (g.X.Expander.cascades l.x) l.tuple;
  on : g.X.Expander.goes_on l.fn.x l.x;
  pays : Pays l.source (At l.state l.tuple) (g.X.Expander.calls l.fn.x) (g.X.Expander.calls l.x) l.fn.search.nodes l.search.nodes;
}
