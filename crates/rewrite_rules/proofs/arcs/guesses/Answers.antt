use Rattle.std.proofs.Common.{◌≡◌, length, arith, subst}
use Rattle.rewrite_rules.specs.PartsOf.{parts}
use Rattle.rewrite_rules.specs.Steps.{Guess, IsMove, empty_step}
use Rattle.rewrite_rules.specs.Drawn.{Draws}
use Rattle.rewrite_rules.specs.declared.spots.Gap.TheVariants.{Open}
use Rattle.rewrite_rules.specs.declared.spots.Spot.TheVariants.{Hub, Outside}
use Rattle.rewrite_rules.proofs.Drawing.{below_none, below_more, draws_same}
use Rattle.rewrite_rules.proofs.Listing.{lists_hub}
use Rattle.rewrite_rules.proofs.arcs.guesses.Goals as goal

pub loop-back-init : goal.loop-back-init
loop-back-init c =
    let p = parts c.args.tau.now c.args.t.now.automata in
    below_none (λ b x. x ≡ empty_step 0 (Outside p.sigma_start p.left_start b Open)) c.args.spots.now c.args.row.now.items

pub loop-back-preserved : goal.loop-back-preserved
loop-back-preserved c =
    let p = parts c.args.tau.now c.args.t.now.automata in
    below_more (λ b x. x ≡ empty_step 0 (Outside p.sigma_start p.left_start b Open)) c.loop-back.back c.args.spots.now c.loop-back.spots c.draw.new.spots c.args.row.now.items c.loop-back.row.items c.draw.new.row.items c.loop-back.invariant
    (subst (λ n. Draws (λ x. x ≡ empty_step 0 (Outside n p.left_start c.loop-back.back Open)) c.loop-back.spots c.draw.new.spots c.loop-back.row.items c.draw.new.row.items) c.start.ensures.value c.in_ok-draw.ensures.drawn)

pub returns : goal.returns
returns c =
    let p = parts c.args.tau.now c.args.t.now.automata in
    let e : c.loop-back.back ≡ length c.args.t.now.automata.back.next = omega arith in
    record {
      drawn =
          draws_same (Guess p p.back_count) (IsMove p Hub) c.args.spots.now c.loop-back.spots c.args.row.now.items c.loop-back.row.items (lists_hub p)
          (subst (λ n. Draws (Guess p n) c.args.spots.now c.loop-back.spots c.args.row.now.items c.loop-back.row.items) e c.loop-back.invariant);
    }
