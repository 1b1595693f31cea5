use Rattle.std.proofs.Common.{◌≤◌, ◌<◌, ◌+◌, ◌^◌, length, subst, sym, arith}
use Rattle.speak_core.specs.Crews.{RunsOn}
use Rattle.speak_core.specs.Parts.{says_of}
use Rattle.speak_core.proofs.Said.{speaker_once, tells_none}
use Rattle.speak_core.proofs.Sums.{batch_front, batch_sums_by, few_answers}
use Rattle.speak_core.proofs.sampling.sum_batch.Goals as goal

pub returns-in_err-lines-clause-front : goal.returns-in_err-lines-clause-front
returns-in_err-lines-clause-front g c = λ answers said. tells_none (says_of c.args.speaker.now) _ _ _ answers _ said

pub tell_answers-told-requires : goal.tell_answers-told-requires
tell_answers-told-requires g c =
    let few = few_answers (says_of c.args.speaker.now) c.args.batch.now c.in_ok-lines.lines.items c.in_ok-answers.answers.all.items _ c.in_ok-lines.ensures (rw c.deref.ensures.value at c.in_ok-answers.ensures.answers) in
    let fits = c.requires.numbers in
    subst (λ l. c.args.first + length l < 2 ^ 64) (sym c.deref-2.ensures.value) (omega (arith, few, fits))

pub add_answers-requires : goal.add_answers-requires
add_answers-requires g c =
    let few = few_answers (says_of c.args.speaker.now) c.args.batch.now c.in_ok-lines.lines.items c.in_ok-answers.answers.all.items _ c.in_ok-lines.ensures (rw c.deref.ensures.value at c.in_ok-answers.ensures.answers) in
    let fits = c.requires.room in
    subst (λ l. c.args.summary.now.lines + length l ≤ 2 ^ 32) (sym c.deref-then-told.ensures.value) (omega (arith, few, fits))

pub returns-then-told-clause-done : goal.returns-then-told-clause-done
returns-then-told-clause-done g c =
    batch_sums_by (says_of c.args.speaker.now) _ c.args.first _ _ _ _ _ _ _ c.in_ok-lines.ensures (rw c.deref.ensures.value at c.in_ok-answers.ensures.answers) (rw c.deref-2.ensures.value at c.tell_answers-told.ensures) (RunsOn c.args.speaker.now.normaliser c.args.crew.now c.answer_batch.new.crew c.args.first) c.if-answers.true c.if-told.true _ _ _ _ _ _ (rw c.deref-3.ensures.value at c.in_ok-put.ensures.all) (rw c.deref-then-told.ensures.value at c.in_ok-add_answers.ensures) (rw c.deref-then-told-2.ensures.value at c.add_all.ensures) (c.in_ok-answers.ensures.ran c.if-answers.true)

pub returns-in_err-put-clause-front : goal.returns-in_err-put-clause-front
returns-in_err-put-clause-front g c =
    batch_front (says_of c.args.speaker.now) _ c.args.first _ _ _ _ _ _ _ c.in_ok-lines.ensures (rw c.deref.ensures.value at c.in_ok-answers.ensures.answers) (rw c.deref-2.ensures.value at c.tell_answers-told.ensures) (speaker_once c.args.speaker.now) _ _ (rw c.deref-3.ensures.value at c.put.ensures.front)

pub returns-in_err-add_answers-clause-front : goal.returns-in_err-add_answers-clause-front
returns-in_err-add_answers-clause-front g c =
    batch_front (says_of c.args.speaker.now) _ c.args.first _ _ _ _ _ _ _ c.in_ok-lines.ensures (rw c.deref.ensures.value at c.in_ok-answers.ensures.answers) (rw c.deref-2.ensures.value at c.tell_answers-told.ensures) (speaker_once c.args.speaker.now) _ _ (rw c.deref-3.ensures.value at c.put.ensures.front)

pub returns-then-told-clause-front : goal.returns-then-told-clause-front
returns-then-told-clause-front g c =
    batch_front (says_of c.args.speaker.now) _ c.args.first _ _ _ _ _ _ _ c.in_ok-lines.ensures (rw c.deref.ensures.value at c.in_ok-answers.ensures.answers) (rw c.deref-2.ensures.value at c.tell_answers-told.ensures) (speaker_once c.args.speaker.now) _ _ (rw c.deref-3.ensures.value at c.put.ensures.front)

pub returns-clause-front : goal.returns-clause-front
returns-clause-front g c =
    batch_front (says_of c.args.speaker.now) _ c.args.first _ _ _ _ _ _ _ c.in_ok-lines.ensures (rw c.deref.ensures.value at c.in_ok-answers.ensures.answers) (rw c.deref-2.ensures.value at c.tell_answers-told.ensures) (speaker_once c.args.speaker.now) _ _ (rw c.deref-3.ensures.value at c.put.ensures.front)

pub returns-in_err-answers-clause-front : goal.returns-in_err-answers-clause-front
returns-in_err-answers-clause-front g c = λ answers said. tells_none (says_of c.args.speaker.now) _ _ _ answers _ said
