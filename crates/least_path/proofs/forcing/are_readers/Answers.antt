use Rattle.std.proofs.Common.{subst, arith}
use Rattle.std.specs.Prelude.{All}
use Rattle.std.proofs.lemmas.List.{take_all}
use Rattle.std.proofs.lemmas.List.Elements.{All-more}
use Rattle.least_path.specs.Forcing.{Reads}
use Rattle.least_path.proofs.forcing.are_readers.Goals as goal

pub loop-arc-preserved : goal.loop-arc-preserved
loop-arc-preserved c = All-more Reads c.args.row.now c.loop-arc.arc-index (record { input = 0; output = 0; weight = 0; next = 0 }) c.loop-arc-test.true c.loop-arc.invariant c.if-arc-eq0.false

pub returns : goal.returns
returns c = λ e. subst (All Reads) (take_all c.loop-arc.arc-index c.args.row.now (omega arith)) c.loop-arc.invariant
