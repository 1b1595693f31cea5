use Rattle.std.proofs.Common.{◌≡◌, ℕ, Some, sym, ap, ◌∙◌}
use Rattle.std.specs.Prelude.{IsTrue}
use Rattle.weighted_relations.specs.Machines.{final_of}
use Rattle.rewrite_rules.specs.Bimachine.{gap_left}
use Rattle.rewrite_rules.specs.PartsOf.{parts}
use Rattle.rewrite_rules.specs.Steps.{Leave, empty_step}
use Rattle.rewrite_rules.specs.declared.spots.Gap.{Gap}
use Rattle.rewrite_rules.specs.declared.spots.Spot.TheVariants.{Outside}
use Rattle.rewrite_rules.proofs.Drawing.{draws_same}
use Rattle.rewrite_rules.proofs.arcs.leave.Goals as goal

pub returns-in_ok-draw : goal.returns-in_ok-draw
returns-in_ok-draw c =
    let p = parts c.args.tau.now c.args.t.now.automata in
    let at = c.args.at in
    let w : ℕ = c.in-Some-Some-true.weight in
    let g : Gap = c.in-Some-Some-true.gap in
    let fin : final_of p.tau.finals c.args.state ≡ Some w = sym c.in-Some-Some-true.ensures.value in
    let left : gap_left c.args.held ≡ Some g = sym c.in-Some-Some-true.ensures'.value in
    let right : IsTrue (p.right_accepts at.back) = sym c.in-Some-Some-true.ensures''.value in
    record {
      drawn =
          draws_same (λ x. x ≡ empty_step w (Outside at.sigma at.left at.back g)) (Leave p at c.args.state c.args.held) c.args.spots.now c.draw.new.spots c.args.row.now.items c.draw.new.row.items
          (λ x. (
            λ e. (w, g, fin, right, left, e),
            λ (v, h, f, a, l, e).
                let some_v : Some v ≡ Some w = sym f ∙ fin in
                let some_h : Some h ≡ Some g = sym l ∙ left in
                let same_v : v ≡ w = cc in
                let same_h : h ≡ g = cc in
                e ∙ ap (λ n. empty_step n (Outside at.sigma at.left at.back h)) same_v ∙ ap (λ k. empty_step w (Outside at.sigma at.left at.back k)) same_h,
          )) c.in_ok-draw.ensures.drawn;
    }
