use Rattle.std.proofs.Common.{refl, length}
use Rattle.rewrite_rules.specs.PartsOf.{parts}
use Rattle.rewrite_rules.specs.Steps.{Below, CopyOf, Pass}
use Rattle.rewrite_rules.proofs.Drawing.{draws_same}
use Rattle.rewrite_rules.proofs.arcs.pass.Goals as goal

pub returns-in_ok-copies : goal.returns-in_ok-copies
returns-in_ok-copies c = record {
  drawn =
      draws_same (Below (CopyOf c.args.t.now c.args.at) (length c.args.t.now.classes.members)) (Pass (parts c.args.tau.now c.args.t.now.automata) c.args.t.now c.args.at c.args.gap) c.args.spots.now c.copies.new.spots c.args.row.now.items c.copies.new.row.items
      (λ x. (λ h. (c.if-may_pass.ensures.value.0 refl, h), λ h. h.1)) c.in_ok-copies.ensures.drawn;
}
