use Rattle.std.proofs.Common.{◌<◌, length}
use Rattle.search_tests.proofs.Scans.{FirstOf}
use Rattle.search_tests.proofs.firsts.first_index.Given as goal

abbrev pub invariant-loop-i : goal.invariant-loop-i
invariant-loop-i l = record {
  within : l.first < length l.waiting;
  first : FirstOf l.waiting l.first l.i;
}
