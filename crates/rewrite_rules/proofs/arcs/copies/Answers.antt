use Rattle.std.proofs.Common.{◌≡◌, length, arith, subst}
use Rattle.rewrite_rules.specs.Steps.{Below, CopyOf}
use Rattle.rewrite_rules.specs.Drawn.{Draws}
use Rattle.rewrite_rules.proofs.Drawing.{below_none, below_more}
use Rattle.rewrite_rules.proofs.arcs.copies.Goals as goal

pub loop-class-init : goal.loop-class-init
loop-class-init c = below_none (CopyOf c.args.t.now c.args.at) c.args.spots.now c.args.row.now.items

pub loop-class-preserved : goal.loop-class-preserved
loop-class-preserved c = below_more (CopyOf c.args.t.now c.args.at) c.loop-class.class c.args.spots.now c.loop-class.spots c.copies_of.new.spots c.args.row.now.items c.loop-class.row.items c.copies_of.new.row.items c.loop-class.invariant c.in_ok-copies_of.ensures.drawn

pub returns : goal.returns
returns c =
    let e : c.loop-class.class ≡ length c.args.t.now.classes.members = omega arith in
    record { drawn = subst (λ n. Draws (Below (CopyOf c.args.t.now c.args.at) n) c.args.spots.now c.loop-class.spots c.args.row.now.items c.loop-class.row.items) e c.loop-class.invariant }
