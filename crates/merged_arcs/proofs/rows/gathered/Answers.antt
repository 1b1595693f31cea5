use Rattle.std.proofs.Common.{◌+◌, get_or, subst, sym, arith}
use Rattle.std.proofs.lemmas.List.Elements.{Contains-get_or}
use Rattle.std.proofs.lemmas.List.Sorted.{Contains-permutation, IsPermutation-sym}
use Rattle.merged_arcs.proofs.Gathering.{ArcsTo, arcs_more, arcs_all}
use Rattle.merged_arcs.proofs.rows.gathered.Goals as goal

pub arcs_of-requires : goal.arcs_of-requires
arcs_of-requires c = record { state = c.requires.within (get_or c.args.set.now c.loop-s.s-index 0) (Contains-get_or c.args.set.now c.loop-s.s-index 0 c.loop-s-test.true) }

pub loop-s-preserved : goal.loop-s-preserved
loop-s-preserved c =
    subst (ArcsTo c.args.a.now c.args.set.now (c.loop-s.s-index + 1)) (sym c.in_ok-extend_from_slice.ensures.items)
    (arcs_more c.args.a.now c.args.set.now c.loop-s.s-index c.loop-s.arcs.items c.arcs_of.result.now c.loop-s-test.true c.loop-s.invariant c.arcs_of.ensures.value)

pub returns : goal.returns
returns c =
    let all = arcs_all c.args.a.now c.args.set.now c.loop-s.s-index c.loop-s.arcs.items (omega arith) c.loop-s.invariant in
    let order = c.put_in_order.ensures.order in
    record {
      together = c.put_in_order.ensures.together;
      all = λ y. (
        λ h. (all y).0 (Contains-permutation c.put_in_order.new.arcs.items c.loop-s.arcs.items y (IsPermutation-sym c.loop-s.arcs.items c.put_in_order.new.arcs.items order) h),
        λ h. Contains-permutation c.loop-s.arcs.items c.put_in_order.new.arcs.items y order ((all y).1 h),
      );
    }
