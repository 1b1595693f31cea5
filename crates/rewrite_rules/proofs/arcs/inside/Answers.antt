use Rattle.std.proofs.Common.{◌⊎◌, [], length, get_or}
use Rattle.rewrite_rules.specs.PartsOf.{parts}
use Rattle.rewrite_rules.specs.Steps.{IsMove, Leave, Walk}
use Rattle.rewrite_rules.specs.declared.spots.Spot.TheVariants.{Inside}
use Rattle.rewrite_rules.proofs.Drawing.{draws_same, draws_then}
use Rattle.rewrite_rules.proofs.Listing.{lists_inside}
use Rattle.rewrite_rules.proofs.arcs.inside.Goals as goal

pub returns : goal.returns
returns c =
    let p = parts c.args.tau.now c.args.t.now.automata in
    let arcs = get_or c.args.tau.now.arcs c.args.state [] in
    let L = Leave p c.args.at c.args.state c.args.held in
    let W = Walk p c.args.at arcs c.args.held (length arcs) in
    record {
      drawn =
          draws_same (λ x. L x ⊎ W x) (IsMove p (Inside c.args.at.sigma c.args.at.left c.args.at.back c.args.state c.args.held)) c.args.spots.now c.walks.new.spots c.args.row.now.items c.walks.new.row.items (lists_inside p c.args.at c.args.state c.args.held)
          (draws_then L W c.args.spots.now c.leave.new.spots c.walks.new.spots c.args.row.now.items c.leave.new.row.items c.walks.new.row.items c.in_ok-leave.ensures.drawn c.in_ok-walks.ensures.drawn);
    }
