use Rattle.std.proofs.Common.{arith}
use Rattle.speak_core.proofs.Sums.{adds_all, adds_more}
use Rattle.speak_core.proofs.sampling.add_answers.Goals as goal

pub loop-answer-preserved : goal.loop-answer-preserved
loop-answer-preserved c =
    let so_far = c.loop-answer.invariant.1 in
    let one = c.in_ok-add.ensures.counted in (
      adds_more c.args.answers.now c.loop-answer.answer-index c.answer-item.result c.loop-answer-test.true c.answer-item.is _ c.args.summary.now c.loop-answer.summary c.add.new.self c.words_of.ensures c.loop-answer.invariant.0 c.in_ok-add.ensures.added,
      omega (arith, so_far, one),
    )

pub returns : goal.returns
returns c = adds_all c.args.answers.now c.loop-answer.answer-index (let end = c.loop-answer-test.false in omega (arith, end)) c.args.summary.now c.loop-answer.summary c.loop-answer.invariant.0
