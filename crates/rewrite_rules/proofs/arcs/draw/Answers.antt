use Rattle.std.proofs.Common.{◌≡◌, sym, subst}
use Rattle.rewrite_rules.specs.Drawn.{Draws}
use Rattle.rewrite_rules.proofs.Drawing.{draws_one}
use Rattle.rewrite_rules.proofs.arcs.draw.Goals as goal

pub returns : goal.returns
returns c = record {
  drawn =
      subst (Draws (λ x. x ≡ c.args.step) c.args.spots.now c.number.new.self c.args.row.now.items) (sym c.in_ok-push.ensures.items)
      (draws_one c.args.spots.now c.number.new.self c.args.row.now.items c.args.step c.in_ok-next.next c.in_ok-next.ensures.number);
}
