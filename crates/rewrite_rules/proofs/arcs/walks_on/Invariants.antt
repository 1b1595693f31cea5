use Rattle.rewrite_rules.specs.PartsOf.{parts}
use Rattle.rewrite_rules.specs.Steps.{WalkOn}
use Rattle.rewrite_rules.specs.Drawn.{Draws}
use Rattle.rewrite_rules.proofs.arcs.walks_on.Given as goal

abbrev pub invariant-loop-back : goal.invariant-loop-back
invariant-loop-back l = Draws (WalkOn (parts l.tau l.t.automata) l.fn.at l.fn.held l.arc l.sources l.back-index) l.initial.spots l.spots l.initial.row.items l.row.items
