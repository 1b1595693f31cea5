use Rattle.std.proofs.Common.{take}
use Rattle.std.specs.Prelude.{sum_by}
use Rattle.fst_core.specs.Top.{top_of, Under}
use Rattle.fst_core.proofs.Branches.{Branches}
use Rattle.fst_core.proofs.unions.union.Given as goal

abbrev pub invariant-loop-p : goal.invariant-loop-p
invariant-loop-p l = record { branches : Branches (take l.p-index l.parts) l.built l.row.items; under : Under (sum_by top_of (take l.p-index l.parts)) l.built }
