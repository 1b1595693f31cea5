use Rattle.rewrite_rules.proofs.Marking.{LiveTo}
use Rattle.rewrite_rules.proofs.lives.live_states.Given as goal

abbrev pub invariant-loop-s : goal.invariant-loop-s
invariant-loop-s l = LiveTo l.d l.s l.live.items
