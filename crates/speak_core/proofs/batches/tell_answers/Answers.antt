use Rattle.std.proofs.Common.{◌≡◌, ◌∙◌, true, false, sym, arith}
use Rattle.speak_core.proofs.Tellings.{tells_faults, tells_front, tells_words}
use Rattle.speak_core.proofs.batches.tell_answers.Goals as goal

pub loop-line-preserved : goal.loop-line-preserved
loop-line-preserved c =
    let counted = c.loop-line.invariant.0 in (
      omega (arith, counted),
      tells_words c.args.heard.now c.loop-line.line-index c.line-item.result c.loop-line-test.true c.line-item.is _ _ c.loop-line.invariant.1 c.in-Ok.ensures.words,
      tells_faults c.args.heard.now c.loop-line.line-index c.line-item.result c.loop-line-test.true c.line-item.is c.args.report c.args.first c.loop-line.number _ _ counted c.loop-line.invariant.2 c.in-Ok.ensures.faults,
      c.loop-line.invariant.3,
    )

pub returns-in_default : goal.returns-in_default
returns-in_default c =
    tells_front c.args.report c.args.first c.args.heard.now c.loop-line.line-index _ _ c.loop-line.told.is_whole (c.in_default.ensures.words_kept ∙ c.loop-line.invariant.1) (c.in_default.ensures.faults_kept ∙ c.loop-line.invariant.2)
    (λ whole. absurd (let both : true ≡ false = sym whole ∙ c.loop-line.invariant.3 in cc))
