use Rattle.std.proofs.Common.{subst, arith}
use Rattle.std.specs.Prelude.{All}
use Rattle.std.proofs.lemmas.List.{take_all}
use Rattle.std.proofs.lemmas.List.Elements.{All-more}
use Rattle.least_path.specs.Ending.{IsRefused}
use Rattle.least_path.proofs.ending.are_refused.Goals as goal

pub loop-arc-preserved : goal.loop-arc-preserved
loop-arc-preserved g c = All-more (IsRefused (g.X.Expander.cascades c.args.x.now) c.args.tuple.now) c.args.row.now c.loop-arc.arc-index (record { input = 0; output = 0; weight = 0; next = 0 }) c.loop-arc-test.true c.loop-arc.invariant (c.is_refused.ensures c.if-not-is_refused.false)

pub returns : goal.returns
returns g c = λ e. subst (All (IsRefused (g.X.Expander.cascades c.args.x.now) c.args.tuple.now)) (take_all c.loop-arc.arc-index c.args.row.now (omega arith)) c.loop-arc.invariant
