use Rattle.std.proofs.Common.{take}
use Rattle.std.specs.Prelude.{All}
use Rattle.least_path.specs.Ending.{IsRefused}
use Rattle.least_path.proofs.ending.are_refused.Given as goal

abbrev pub invariant-loop-arc : goal.invariant-loop-arc
invariant-loop-arc g l = All (IsRefused (g.X.Expander.cascades l.x) l.tuple) (take l.arc-index l.row)
