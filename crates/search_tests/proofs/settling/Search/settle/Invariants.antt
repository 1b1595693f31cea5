use Rattle.std.proofs.Common.{◌≡◌, take, drop}
use Rattle.search_tests.specs.Growth.{AlongAny, Grown}
use Rattle.search_tests.proofs.settling.Search.settle.Given as goal

abbrev pub invariant-loop-arc : goal.invariant-loop-arc
invariant-loop-arc l = record {
  settled : l.self.settled ≡ l.initial.self.settled;
  grown : Grown l.line l.initial.self.settled.items l.initial.self.waiting.items l.self.waiting.items l.from l.arc-index (AlongAny (drop l.pair.position l.line) (take l.arc-index l.arc-items));
}
