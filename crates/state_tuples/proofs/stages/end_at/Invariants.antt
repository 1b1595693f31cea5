use Rattle.std.proofs.Common.{◌≡◌}
use Rattle.state_tuples.specs.Positions.{back}
use Rattle.compose_filter.specs.Expansions.{finality}
use Rattle.state_tuples.specs.Cascades.{no_part}
use Rattle.state_tuples.proofs.stages.end_at.Given as goal

abbrev pub invariant-loop-k : goal.invariant-loop-k
invariant-loop-k l = l.sum ≡ finality (back no_part l.cascade.parts l.k) (back 0 l.t.states l.k)
