use Rattle.std.proofs.Common.{◌≡◌, true, length, sym, ap, ◌∙◌}
use Rattle.rewrite_rules.specs.Moves.{moved}
use Rattle.rewrite_rules.specs.PartsOf.{parts}
use Rattle.rewrite_rules.specs.Steps.{WalkFrom, WalkOn}
use Rattle.rewrite_rules.proofs.Drawing.{draws_same}
use Rattle.rewrite_rules.proofs.arcs.walks_from.Goals as goal

pub returns-in_ok-walks_on : goal.returns-in_ok-walks_on
returns-in_ok-walks_on c =
    let p = parts c.args.tau.now c.args.t.now.automata in
    let at = c.args.at in
    let a = c.args.arc in
    let sources = c.args.sources.now in
    let on : p.sigma_live (moved p.sigma_step at.sigma a.input) ≡ true = ap p.sigma_live (sym c.after-sigma.ensures.value) ∙ sym c.if-goes_on.ensures.value in
    record {
      drawn =
          draws_same (WalkOn p at c.args.held a sources (length sources)) (WalkFrom p at c.args.held a sources) c.args.spots.now c.walks_on.new.spots c.args.row.now.items c.walks_on.new.row.items
          (λ x. (λ h. (on, h), λ h. h.1)) c.in_ok-walks_on.ensures.drawn;
    }
