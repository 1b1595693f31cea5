use Rattle.std.proofs.Common.{take}
use Rattle.std.specs.Prelude.{All}
use Rattle.least_path.specs.Forcing.{Reads}
use Rattle.least_path.proofs.forcing.are_readers.Given as goal

abbrev pub invariant-loop-arc : goal.invariant-loop-arc
invariant-loop-arc l = All Reads (take l.arc-index l.row)
