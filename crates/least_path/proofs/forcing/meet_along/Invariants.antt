use Rattle.std.specs.Prelude.{◌≡◌, ◌≤◌, ◌+◌, ◌*◌, ◌^◌, ◌-◌, ◌++◌, [], Contains}
use Rattle.weighted_relations.specs.Graphs.{label}
use Rattle.state_tuples.specs.Cascades.{Cascaded, IsOf, next_of}
use Rattle.least_path.specs.Texts.{text_of, Grows}
use Rattle.least_path.specs.Waiting.{Fits}
use Rattle.least_path.proofs.Going.{Came}
use Rattle.least_path.proofs.forcing.meet_along.Given as goal

abbrev pub invariant-loop-more : goal.invariant-loop-more
invariant-loop-more g l = record {
  few : l.passed ≤ 4096;
  texts : Grows l.fn.search.outputs l.search.outputs;
  nodes : l.search.nodes ≡ l.fn.search.nodes;
  marks : l.search.marks ≡ l.fn.search.marks;
  lists : l.search.lists ≡ l.fn.search.lists;
  fits : Fits l.search.outputs l.way;
  light : l.way.weight ≤ l.from.weight + l.passed * 2 ^ 64;
  short : l.way.length ≤ l.from.length + l.passed;
  came : (c : Cascaded) → Contains (g.X.Expander.cascades l.x) c → IsOf c l.tuple → Came l.source c l.state (next_of l.tuple l.a) (l.from.weight + l.a.weight) (text_of l.fn.search.outputs l.from.output ++ label l.a.output []) l.passed l.next (l.way.weight + l.last.weight) (text_of l.search.outputs l.way.output ++ label l.last.output []);
}

abbrev pub decreases-loop-more : goal.decreases-loop-more
decreases-loop-more g l = 4096 - l.passed
