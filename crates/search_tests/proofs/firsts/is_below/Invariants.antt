use Rattle.std.proofs.Common.{◌↔◌, drop}
use Rattle.weighted_relations.specs.Least.{BytesBelow}
use Rattle.search_tests.proofs.firsts.is_below.Given as goal

abbrev pub invariant-loop-i : goal.invariant-loop-i
invariant-loop-i l = BytesBelow (drop l.i l.a) (drop l.i l.b) ↔ BytesBelow l.a l.b
