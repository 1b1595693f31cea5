use Rattle.std.proofs.Common.{sym, subst}
use Rattle.rewrite_rules.specs.Steps.{CopyTo}
use Rattle.rewrite_rules.specs.Drawn.{Draws}
use Rattle.rewrite_rules.proofs.Drawing.{draws_copies}
use Rattle.rewrite_rules.proofs.arcs.copies_to.Goals as goal

pub returns : goal.returns
returns c = record {
  drawn =
      subst (Draws (CopyTo c.args.bytes.now c.args.to) c.args.spots.now c.number.new.self c.args.row.now.items) (sym c.in_ok-copy_arcs.ensures.arcs)
      (draws_copies c.args.spots.now c.number.new.self c.args.row.now.items c.args.bytes.now c.args.to c.in_ok-next.next c.in_ok-next.ensures.number c.requires.some);
}
