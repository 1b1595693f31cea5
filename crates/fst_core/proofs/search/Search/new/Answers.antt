use Rattle.std.proofs.Common.{sym, subst}
use Rattle.fst_core.specs.Reach.{Marked}
use Rattle.fst_core.proofs.Searches.{marked_none}
use Rattle.fst_core.proofs.search.Search.new.Goals as goal

pub invariant_of-result : goal.invariant_of-result
invariant_of-result c = subst (Marked c.loop.marks.items) (sym c.new.ensures.items) (marked_none c.loop.marks.items c.loop.invariant.none)
