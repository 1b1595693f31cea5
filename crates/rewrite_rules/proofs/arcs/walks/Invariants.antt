use Rattle.rewrite_rules.specs.PartsOf.{parts}
use Rattle.rewrite_rules.specs.Steps.{Walk}
use Rattle.rewrite_rules.specs.Drawn.{Draws}
use Rattle.rewrite_rules.proofs.arcs.walks.Given as goal

abbrev pub invariant-loop-arc : goal.invariant-loop-arc
invariant-loop-arc l = Draws (Walk (parts l.tau l.t.automata) l.at l.arcs l.held l.arc-index) l.initial.spots l.spots l.initial.row.items l.row.items
