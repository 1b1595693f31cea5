use Rattle.std.proofs.Common.{All, subst}
use Rattle.std.proofs.lemmas.List.{take_all}
use Rattle.std.proofs.lemmas.List.Elements.{All-more}
use Rattle.weighted_relations.specs.Machines.{WellFormed}
use Rattle.fst_core.specs.Sorted.{HasSortedRows}
use Rattle.state_tuples.proofs.cascades.all_sorted.Goals as goal
use Rattle.state_tuples.proofs.cascades.all_sorted.Goals.{then-is_sorted, else-is_sorted}

pub loop-part-preserved : goal.loop-part-preserved
loop-part-preserved c =
    let parts = c.args.parts.now in
    let i = c.loop-part.part-index in
    let m = c.part-item.result in
    record {
      sound = All-more WellFormed parts i m c.loop-part-test.true c.loop-part.invariant.sound (subst WellFormed c.part-item.is c.start-start.ensures.sound);
      sorted = elim c.if-is_sorted.branch [
        | then-is_sorted w ↦ λ t. All-more HasSortedRows parts i m c.loop-part-test.true (c.loop-part.invariant.sorted (cc)) (subst HasSortedRows c.part-item.is (c.is_sorted.ensures.sorted.0 w.if-is_sorted.true))
        | else-is_sorted w ↦ λ t. absurd (cc)
      ];
    }

pub returns-clause-sound : goal.returns-clause-sound
returns-clause-sound c = subst (All WellFormed) (take_all c.loop-part.part-index c.args.parts.now c.loop-part-test.false) c.loop-part.invariant.sound

pub returns-clause-sorted : goal.returns-clause-sorted
returns-clause-sorted c = λ t. subst (All HasSortedRows) (take_all c.loop-part.part-index c.args.parts.now c.loop-part-test.false) (c.loop-part.invariant.sorted t)
