use Rattle.std.proofs.Common.{[], get_or}
use Rattle.rewrite_rules.specs.Steps.{Listed, CopyTo, copied_to}
use Rattle.rewrite_rules.specs.Drawn.{Draws}
use Rattle.rewrite_rules.proofs.arcs.copies_on.Given as goal

abbrev pub invariant-loop-back : goal.invariant-loop-back
invariant-loop-back l = Draws (Listed l.sources (λ d. CopyTo (get_or l.t.classes.members l.class []) (copied_to l.t l.fn.at l.class d)) l.back-index) l.initial.spots l.spots l.initial.row.items l.row.items
