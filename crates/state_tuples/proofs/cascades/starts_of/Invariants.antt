use Rattle.std.proofs.Common.{◌≡◌}
use Rattle.compose_filter.specs.ComposedPaths.{starts}
use Rattle.state_tuples.specs.Positions.{back, padded}
use Rattle.state_tuples.specs.Cascades.{no_part}
use Rattle.state_tuples.proofs.cascades.starts_of.Given as goal

abbrev pub invariant-loop-k : goal.invariant-loop-k
invariant-loop-k l = l.states ≡ padded (starts (back no_part l.parts l.k))
