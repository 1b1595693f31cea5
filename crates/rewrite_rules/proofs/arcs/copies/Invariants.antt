use Rattle.rewrite_rules.specs.Steps.{Below, CopyOf}
use Rattle.rewrite_rules.specs.Drawn.{Draws}
use Rattle.rewrite_rules.proofs.arcs.copies.Given as goal

abbrev pub invariant-loop-class : goal.invariant-loop-class
invariant-loop-class l = Draws (Below (CopyOf l.t l.at) l.class) l.initial.spots l.spots l.initial.row.items l.row.items
