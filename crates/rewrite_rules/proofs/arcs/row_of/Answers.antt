use Rattle.std.proofs.Common.{subst}
use Rattle.rewrite_rules.specs.PartsOf.{parts}
use Rattle.rewrite_rules.specs.Steps.{IsMove}
use Rattle.rewrite_rules.specs.Drawn.{Draws}
use Rattle.rewrite_rules.proofs.arcs.row_of.Goals as goal

pub returns : goal.returns
returns c = record {
  drawn = subst (λ r. Draws (IsMove (parts c.args.tau.now c.args.t.now.automata) c.args.spot) c.args.spots.now c.fill.new.spots r c.fill.new.row.items) c.new-row.ensures.items c.in_ok-fill.ensures.drawn;
}
