use Rattle.std.proofs.Common.{sym, subst}
use Rattle.fst_core.specs.Sorted.{IsReordered}
use Rattle.fst_core.proofs.ReorderedReadings.{reordered_reads}
use Rattle.normaliser.proofs.preparing.in_order.Goals as goal

pub returns : goal.returns
returns c = reordered_reads c.args.fst.now c.into_fst.result (subst (IsReordered c.args.fst.now) (sym c.into_fst.ensures.value) c.in_ok-sorted.ensures.reordered)
