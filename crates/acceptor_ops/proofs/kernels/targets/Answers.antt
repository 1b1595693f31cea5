use Rattle.std.proofs.Common.{◌≡◌, length, get_or, subst, ◌∙◌, arith}
use Rattle.std.proofs.lemmas.List.Elements.{Contains-get_or}
use Rattle.acceptor_ops.specs.StateSets.{Filled, RowFilled}
use Rattle.acceptor_ops.proofs.Filling.{filled_none, filled_more, fits}
use Rattle.acceptor_ops.proofs.kernels.targets.Goals as goal

pub loop-s-init : goal.loop-s-init
loop-s-init c = filled_none c.args.a.now c.args.classes.now.classes c.args.classes.now.count c.args.set.now c.in_ok-buckets.buckets (c.in_ok-buckets.ensures.count ∙ c.count.ensures.value) c.in_ok-buckets.ensures.empty

pub arcs_of-requires : goal.arcs_of-requires
arcs_of-requires c = record { state = c.requires.within (get_or c.args.set.now c.loop-s.s-index 0) (Contains-get_or c.args.set.now c.loop-s.s-index 0 c.loop-s-test.true) }

pub fill-requires : goal.fill-requires
fill-requires c = record { within = fits c.args.a.now c.args.classes.now (get_or c.args.set.now c.loop-s.s-index 0) _ _ c.arcs_of.ensures.sound c.requires.classes c.arcs_of.ensures.value c.loop-s.invariant.count }

pub loop-s-preserved : goal.loop-s-preserved
loop-s-preserved c =
    filled_more c.args.a.now c.args.classes.now.classes c.args.classes.now.count c.args.set.now c.loop-s.s-index c.loop-s.buckets c.fill.new.buckets c.arcs_of.ensures.sound c.loop-s-test.true c.loop-s.invariant
    (subst (λ r. RowFilled c.args.classes.now.classes r (length r) c.loop-s.buckets c.fill.new.buckets) c.arcs_of.ensures.value c.in_ok-fill.ensures.filled)

pub returns : goal.returns
returns c =
    let e : c.loop-s.s-index ≡ length c.args.set.now = omega arith in
    record { filled = subst (λ k. Filled c.args.a.now c.args.classes.now.classes c.args.classes.now.count c.args.set.now k c.loop-s.buckets) e c.loop-s.invariant }
