use Rattle.std.proofs.Common.{length, arith, ◌∙◌, ap, sym}
use Rattle.std.specs.Prelude.{slice_get}
use Rattle.weighted_relations.specs.Machines.{ArcFits}
use Rattle.fst_core.proofs.Building.{adds_more}
use Rattle.fst_core.proofs.builder.Builder.place.Goals as goal

pub placed-requires : goal.placed-requires
placed-requires c k a h =
    let fits : ArcFits (length c.args.p.now.arcs) a = c.arcs_of.ensures.sound.arcs c.loop-s.s k a (ap (λ z. slice_get z k) (sym c.arcs_of.ensures.value) ∙ h) in
    omega (arith, c.len-s-end.ensures.count, c.len-s-end.ensures.small, c.len-off.ensures.small)

pub loop-s-preserved : goal.loop-s-preserved
loop-s-preserved c = record {
  off = c.loop-s.invariant.off;
  adds = adds_more _ _ _ _ _ _ _ _ c.loop-s.invariant.adds (cc (c.in_ok-push.ensures.value, c.in_ok-row.ensures));
}
