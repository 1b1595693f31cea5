use Rattle.std.proofs.Common.{◌≡◌, refl, subst}
use Rattle.rewrite_rules.specs.PartsOf.{parts}
use Rattle.rewrite_rules.specs.Steps.{Enter, empty_step}
use Rattle.rewrite_rules.specs.Drawn.{Draws}
use Rattle.rewrite_rules.specs.declared.spots.Held.TheVariants.{Fresh}
use Rattle.rewrite_rules.specs.declared.spots.Spot.TheVariants.{Inside}
use Rattle.rewrite_rules.proofs.Drawing.{draws_same}
use Rattle.rewrite_rules.proofs.arcs.enter.Goals as goal

pub returns-in_ok-draw : goal.returns-in_ok-draw
returns-in_ok-draw c =
    let p = parts c.args.tau.now c.args.t.now.automata in
    let there = empty_step 0 (Inside c.args.at.sigma c.args.at.left c.args.at.back p.tau.start (Fresh c.args.gap)) in
    record {
      drawn =
          draws_same (λ x. x ≡ there) (Enter p c.args.at c.args.gap) c.args.spots.now c.draw.new.spots c.args.row.now.items c.draw.new.row.items (λ x. (λ e. (c.if-enters.ensures.value.0 refl, e), λ h. h.1))
          (subst (λ n. Draws (λ x. x ≡ empty_step 0 (Inside c.args.at.sigma c.args.at.left c.args.at.back n (Fresh c.args.gap))) c.args.spots.now c.draw.new.spots c.args.row.now.items c.draw.new.row.items) c.start.ensures.value c.in_ok-draw.ensures.drawn);
    }
