use Rattle.std.proofs.Common.{take}
use Rattle.least_path.specs.Texts.{Grows}
use Rattle.least_path.specs.Growths.{AlongMoves}
use Rattle.least_path.specs.Paying.{Adds, IsAt}
use Rattle.least_path.specs.Relaxing.{Kept, GainedFrom}
use Rattle.least_path.proofs.spreading.spread_moves.Given as goal

abbrev pub invariant-loop-a : goal.invariant-loop-a
invariant-loop-a g l = record {
  kept : Kept l.search;
  texts : Grows l.fn.search.outputs l.search.outputs;
  gained : GainedFrom l.source (g.X.Expander.cascades l.x) l.tuple l.fn.search l.search l.from (λ c. AlongMoves l.state l.tuple (take l.a-index l.moves));
  adds : Adds (IsAt l.state) l.fn.search.nodes l.search.nodes;
}
