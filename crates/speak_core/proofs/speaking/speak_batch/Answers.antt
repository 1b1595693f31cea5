use Rattle.std.proofs.Common.{◌<◌, ◌+◌, ◌^◌, length, subst, sym, arith}
use Rattle.speak_core.specs.Crews.{RunsOn}
use Rattle.speak_core.specs.Parts.{says_of}
use Rattle.norm_base.proofs.Front.{prefix_none}
use Rattle.speak_core.proofs.Said.{says_once, tells_none}
use Rattle.speak_core.proofs.Tellings.{answers_few, batch_faults, batch_ran, batch_words}
use Rattle.speak_core.proofs.speaking.speak_batch.Goals as goal

pub tell_answers-told-requires : goal.tell_answers-told-requires
tell_answers-told-requires g c =
    let few = answers_few (says_of c.args.speaker.now) c.args.batch.now c.in_ok-answers.answers.all.items c.in_ok-answers.answers.is_whole c.in_ok-answers.ensures.answers in
    let fits = c.requires.numbers in
    subst (λ l. c.args.first + length l < 2 ^ 64) (sym c.deref.ensures.value) (omega (arith, few, fits))

pub returns-in_err-put_both-clause-out_front : goal.returns-in_err-put_both-clause-out_front
returns-in_err-put_both-clause-out_front g c =
    batch_words (says_of c.args.speaker.now) _ c.args.first _ _ _ _ _ _ c.in_ok-answers.ensures.answers (rw c.deref.ensures.value at c.tell_answers-told.ensures) (says_once c.args.speaker.now.mode _ _) _ _ (rw c.deref-2.ensures.value at c.put_both.ensures.words_front)

pub returns-in_err-put_both-clause-err_front : goal.returns-in_err-put_both-clause-err_front
returns-in_err-put_both-clause-err_front g c =
    batch_faults (says_of c.args.speaker.now) _ c.args.first _ _ _ _ _ _ c.in_ok-answers.ensures.answers (rw c.deref.ensures.value at c.tell_answers-told.ensures) (says_once c.args.speaker.now.mode _ _) _ _ (rw c.deref-3.ensures.value at c.put_both.ensures.faults_front)

pub returns-then-told-clause-out_front : goal.returns-then-told-clause-out_front
returns-then-told-clause-out_front g c =
    batch_words (says_of c.args.speaker.now) _ c.args.first _ _ _ _ _ _ c.in_ok-answers.ensures.answers (rw c.deref.ensures.value at c.tell_answers-told.ensures) (says_once c.args.speaker.now.mode _ _) _ _ (rw c.deref-2.ensures.value at c.put_both.ensures.words_front)

pub returns-then-told-clause-err_front : goal.returns-then-told-clause-err_front
returns-then-told-clause-err_front g c =
    batch_faults (says_of c.args.speaker.now) _ c.args.first _ _ _ _ _ _ c.in_ok-answers.ensures.answers (rw c.deref.ensures.value at c.tell_answers-told.ensures) (says_once c.args.speaker.now.mode _ _) _ _ (rw c.deref-3.ensures.value at c.put_both.ensures.faults_front)

pub returns-clause-out_front : goal.returns-clause-out_front
returns-clause-out_front g c =
    batch_words (says_of c.args.speaker.now) _ c.args.first _ _ _ _ _ _ c.in_ok-answers.ensures.answers (rw c.deref.ensures.value at c.tell_answers-told.ensures) (says_once c.args.speaker.now.mode _ _) _ _ (rw c.deref-2.ensures.value at c.put_both.ensures.words_front)

pub returns-clause-err_front : goal.returns-clause-err_front
returns-clause-err_front g c =
    batch_faults (says_of c.args.speaker.now) _ c.args.first _ _ _ _ _ _ c.in_ok-answers.ensures.answers (rw c.deref.ensures.value at c.tell_answers-told.ensures) (says_once c.args.speaker.now.mode _ _) _ _ (rw c.deref-3.ensures.value at c.put_both.ensures.faults_front)

pub returns-then-told-clause-done : goal.returns-then-told-clause-done
returns-then-told-clause-done g c =
    batch_ran (says_of c.args.speaker.now) _ c.args.first _ _ _ _ _ _ c.in_ok-answers.ensures.answers (rw c.deref.ensures.value at c.tell_answers-told.ensures) (RunsOn c.args.speaker.now.normaliser c.args.crew.now c.answer_batch.new.crew c.args.first) c.if-answers.true c.if-told.true _ _ _ _ c.are_read.result _ _
    (rw c.deref-2.ensures.value at c.in_ok-put_both.ensures.words) (rw c.deref-3.ensures.value at c.in_ok-put_both.ensures.faults) (rw c.deref-then-told.ensures.value at c.add_all.ensures) (rw c.deref-then-told-2.ensures.value at c.are_read.ensures) (c.in_ok-answers.ensures.ran c.if-answers.true)

pub returns-in_err-answers-clause-out_front : goal.returns-in_err-answers-clause-out_front
returns-in_err-answers-clause-out_front g c = λ answers said. prefix_none _ _

pub returns-in_err-answers-clause-err_front : goal.returns-in_err-answers-clause-err_front
returns-in_err-answers-clause-err_front g c = λ answers said. tells_none (says_of c.args.speaker.now) _ _ _ answers _ said
