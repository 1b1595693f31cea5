use Rattle.std.proofs.Common.{drop, ◌≤◌}
use Rattle.std.specs.Prelude.{sum_by}
use Rattle.fst_core.specs.Top.{top_of}
use Rattle.weighted_relations.specs.Relations.{Same, AllOf}
use Rattle.weighted_relations.specs.Machines.{Reads}
use Rattle.fst_core.proofs.concats.concat.Given as goal

abbrev pub invariant-loop-i : goal.invariant-loop-i
invariant-loop-i l = record { readings : Same (Reads l.all) (AllOf Reads (drop l.i l.parts)); top : top_of l.all ≤ sum_by top_of (drop l.i l.parts) }
