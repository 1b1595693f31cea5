use Rattle.std.proofs.Common.{arith}
use Rattle.std.proofs.lemmas.Grind.{common_steps}
use Rattle.sample_lines.proofs.Batches.{sampled-more, sampled-none, state-more, state-none}
use Rattle.sample_lines.proofs.batch.sample_batch.Goals as goal

pub loop-init : goal.loop-init
loop-init c =
    let none = sampled-none c.args.state in
    let state = state-none c.args.state in
    grind (arith, common_steps)

pub loop-preserved : goal.loop-preserved
loop-preserved c =
    let more = sampled-more c.loop.counter c.args.state in
    let state = state-more c.loop.counter c.args.state in
    grind (arith, common_steps)
