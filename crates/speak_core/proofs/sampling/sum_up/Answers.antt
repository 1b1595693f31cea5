use Rattle.std.proofs.Common.{◌≤◌, ◌-◌, ◌+◌, ◌^◌, ◌∙◌, length, ap, refl, arith}
use Rattle.speak_core.specs.Parts.{says_of}
use Rattle.speak_core.proofs.Said.{speaker_once}
use Rattle.speak_core.proofs.Batching.{one_batch_more}
use Rattle.speak_core.proofs.Sums.{batch_count, summed_all_by, summed_count, summed_cut, summed_front, summed_more_by, summed_none_by}
use Rattle.speak_core.proofs.Sweeping.{swept_more, swept_none}
use Rattle.speak_core.proofs.sampling.sum_up.Goals as goal

pub loop-done-init : goal.loop-done-init
loop-done-init g c =
    (summed_none_by (says_of c.args.speaker.now) c.args.speaker.now.normaliser c.args.crew.now c.requires.begun _ _ _ _ _ _ c.new-summary.ensures, omega arith, c.requires.start, refl, c.requires.ready, refl, swept_none c.args.crew.now.settings (c.args.count - 0) c.args.crew.now.swept c.requires.unswept)

pub returns-in_err-lines-clause-front : goal.returns-in_err-lines-clause-front
returns-in_err-lines-clause-front g c = summed_front (says_of c.args.speaker.now) _ _ _ _ _ _ _ _ _ _ _ c.loop-done.invariant.0.far (speaker_once c.args.speaker.now) c.args.count c.loop-done.invariant.1

pub sum_batch-requires-clause-room : goal.sum_batch-requires-clause-room
sum_batch-requires-clause-room g c κs within =
    let counted = summed_count (says_of c.args.speaker.now) _ _ _ _ _ _ _ _ _ _ _ c.loop-done.invariant.0.far in
    let size = c.min-size.ensures in
    let lines = ap length c.deref.ensures.value ∙ batch_count (says_of c.args.speaker.now) _ _ _ c.in_ok-lines.ensures.lines in
    let fits = c.loop-done.invariant.1 in
    let less = c.loop-done-test.true in
    let room : c.loop-done.summary.lines + length c.deref.result.now ≤ 2 ^ 32 = omega (arith, counted, size, lines, fits, less) in
    room

pub returns-in_err-sum_batch-clause-front : goal.returns-in_err-sum_batch-clause-front
returns-in_err-sum_batch-clause-front g c =
    let size = c.min-size.ensures in
    let first = c.from-first.ensures in
    let fits = c.loop-done.invariant.1 in
    summed_cut (says_of c.args.speaker.now) _ _ _ _ _ _ _ _ _ _ _ c.loop-done.invariant.0.far (speaker_once c.args.speaker.now) c.args.count c.min-size.result (c.from-first.result + 1) _ _ (omega (arith, size, fits)) c.in_ok-lines.ensures.lines (omega (arith, first)) (rw (c.deref.ensures.value, c.loop-done.invariant.3) at c.sum_batch.ensures.front)

pub loop-done-preserved : goal.loop-done-preserved
loop-done-preserved g c =
    let size = c.min-size.ensures in
    let first = c.from-first.ensures in
    let fits = c.loop-done.invariant.1 in (
      summed_more_by (says_of c.args.speaker.now) _ _ _ _ _ _ _ _ _ _ _ c.loop-done.invariant.0.far c.args.speaker.now.normaliser c.loop-done.crew c.sum_batch.new.crew c.loop-done.invariant.0.run _ c.min-size.result (c.from-first.result + 1) c.in_ok-lines.next _ _ _ _ c.in_ok-lines.ensures.lines c.in_ok-lines.ensures.next (omega (arith, first)) (rw (c.deref.ensures.value, c.loop-done.invariant.3) at c.in_ok-sum_batch.ensures.done) c.in_ok-sum_batch.ensures.counts (let less = c.loop-done-test.true in one_batch_more c.loop-done.invariant.6.batches c.loop-done.done c.min-size.result (c.loop-done.invariant.6.whole (omega (arith, less))) (omega (arith, size, less)) (omega (arith, size))),
      omega (arith, size, fits),
      c.in_ok-lines.ensures.below,
      c.sum_batch.ensures.wanted ∙ c.loop-done.invariant.3,
      c.in_ok-sum_batch.ensures.ready,
      c.sum_batch.ensures.settings ∙ c.loop-done.invariant.5,
      swept_more c.args.crew.now.settings c.loop-done.done (c.args.count - c.loop-done.done) c.loop-done.crew.swept c.loop-done.invariant.6 (let less = c.loop-done-test.true in omega (arith, less)) c.min-size.result (c.args.count - (c.loop-done.done + c.min-size.result)) c.sum_batch.new.crew.swept
          (let less = c.loop-done-test.true in omega (arith, size, less)) (omega (arith, size)) (λ left. omega (arith, size, left))
          (rw c.loop-done.invariant.5 at c.in_ok-sum_batch.ensures.swept),
    )

pub returns-clause-front : goal.returns-clause-front
returns-clause-front g c = summed_front (says_of c.args.speaker.now) _ _ _ _ _ _ _ _ _ _ _ c.loop-done.invariant.0.far (speaker_once c.args.speaker.now) c.args.count c.loop-done.invariant.1

pub returns-clause-done : goal.returns-clause-done
returns-clause-done g c =
    let fits = c.loop-done.invariant.1 in
    let end = c.loop-done-test.false in
    summed_all_by (says_of c.args.speaker.now) _ _ _ _ _ _ _ _ _ _ _ c.loop-done.invariant.0.far c.args.speaker.now.normaliser c.loop-done.crew c.loop-done.invariant.0.run c.args.count (omega (arith, fits, end))
