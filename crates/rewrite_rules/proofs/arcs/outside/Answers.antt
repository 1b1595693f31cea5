use Rattle.std.proofs.Common.{◌⊎◌}
use Rattle.rewrite_rules.specs.PartsOf.{parts}
use Rattle.rewrite_rules.specs.Steps.{IsMove, Enter, Pass}
use Rattle.rewrite_rules.specs.declared.spots.Spot.TheVariants.{Outside}
use Rattle.rewrite_rules.proofs.Drawing.{draws_same, draws_then}
use Rattle.rewrite_rules.proofs.Listing.{lists_outside}
use Rattle.rewrite_rules.proofs.arcs.outside.Goals as goal

pub returns : goal.returns
returns c =
    let p = parts c.args.tau.now c.args.t.now.automata in
    let E = Enter p c.args.at c.args.gap in
    let P = Pass p c.args.t.now c.args.at c.args.gap in
    record {
      drawn =
          draws_same (λ x. E x ⊎ P x) (IsMove p (Outside c.args.at.sigma c.args.at.left c.args.at.back c.args.gap)) c.args.spots.now c.pass.new.spots c.args.row.now.items c.pass.new.row.items (lists_outside c.args.tau.now c.args.t.now c.requires.ready c.args.at c.args.gap)
          (draws_then E P c.args.spots.now c.enter.new.spots c.pass.new.spots c.args.row.now.items c.enter.new.row.items c.pass.new.row.items c.in_ok-enter.ensures.drawn c.in_ok-pass.ensures.drawn);
    }
