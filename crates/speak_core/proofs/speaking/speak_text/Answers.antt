use Rattle.std.proofs.Common.{◌≡◌, ◌≤◌, ◌+◌, ℕ, List, true, length, rules, arith, subst, sym}
use Rattle.std.proofs.lemmas.Grind.{common_steps}
use Rattle.std.proofs.lemmas.List.{length-map}
use Rattle.norm_base.proofs.Front.{prefix_none}
use Rattle.speak_core.specs.Crews.{RunsAll}
use Rattle.speak_core.specs.Parts.{SpeaksBy, lines_of, says_of}
use Rattle.speak_core.proofs.Said.{tells_none}
use Rattle.speak_core.proofs.Batching.{none_ran, one_ran}
use Rattle.speak_core.proofs.Whole.{cut_all, cut_none}
use Rattle.speak_core.proofs.speaking.speak_text.Goals as goal

pub returns-in_err-batch-clause-out_front : goal.returns-in_err-batch-clause-out_front
returns-in_err-batch-clause-out_front g c = λ answers said. prefix_none _ _

pub returns-in_err-batch-clause-err_front : goal.returns-in_err-batch-clause-err_front
returns-in_err-batch-clause-err_front g c = λ answers said. tells_none (says_of c.args.speaker.now) _ _ _ answers _ said

pub returns-then-count-eq0-clause-err_front : goal.returns-then-count-eq0-clause-err_front
returns-then-count-eq0-clause-err_front g c = λ answers said. tells_none (says_of c.args.speaker.now) _ _ _ answers _ said

pub returns-then-count-eq0-clause-done : goal.returns-then-count-eq0-clause-done
returns-then-count-eq0-clause-done g c =
    let count : c.len-count.result ≡ length c.in_ok-batch.batch.lines.items = first_of (search rules, grind (arith, common_steps)) in
    let mapped = length-map c.in_ok-batch.batch.lines.items (λ line. line.now) in
    let none = c.if-count-eq0.true in
    subst (λ l. SpeaksBy (RunsAll c.args.speaker.now.normaliser c.args.crew.now c.args.crew.now (c.args.report.now.lines + 1)) (says_of c.args.speaker.now) c.args.report.now.is_wanted (c.args.report.now.lines + 1) c.args.report.now.total c.args.report.now.total l (g.O.Sink.held c.args.out.now) (g.O.Sink.held c.args.out.now) (g.E.Sink.held c.args.err.now) (g.E.Sink.held c.args.err.now) true)
    (sym (cut_none c.args.text.now c.in_ok-batch.batch.rest.now (lines_of c.in_ok-batch.batch.lines.items) c.in_ok-batch.ensures.cuts (omega (arith, count, mapped, none))))
    (none_ran (says_of c.args.speaker.now) c.args.speaker.now.normaliser _ _ c.args.crew.now _ _ _)

pub returns-clause-done : goal.returns-clause-done
returns-clause-done g c =
    let count : c.len-count.result ≡ length c.in_ok-batch.batch.lines.items = first_of (search rules, grind (arith, common_steps)) in
    let mapped = length-map c.in_ok-batch.batch.lines.items (λ line. line.now) in
    let some : 1 ≤ length (lines_of c.in_ok-batch.batch.lines.items) = let other = c.if-count-eq0.false in omega (arith, count, mapped, other) in
    let all = cut_all c.args.text.now c.in_ok-batch.batch.rest.now (lines_of c.in_ok-batch.batch.lines.items) c.in_ok-batch.ensures.cuts c.requires.few in
    subst (λ l. SpeaksBy (RunsAll c.args.speaker.now.normaliser c.args.crew.now c.speak_batch.new.crew (c.args.report.now.lines + 1)) (says_of c.args.speaker.now) c.args.report.now.is_wanted (c.args.report.now.lines + 1) c.args.report.now.total c.speak_batch.new.report.total l (g.O.Sink.held c.args.out.now) (g.O.Sink.held c.speak_batch.new.out) (g.E.Sink.held c.args.err.now) (g.E.Sink.held c.speak_batch.new.err) c.in_ok-is_read.is_read) (sym all)
    (one_ran (says_of c.args.speaker.now) c.args.speaker.now.normaliser _ _ c.args.crew.now c.speak_batch.new.crew _ _ (lines_of c.in_ok-batch.batch.lines.items) _ _ _ _ _ some (subst (λ (l : List (List ℕ)). length l ≤ 1024) all c.requires.few) (rw c.deref.ensures.value at c.in_ok-is_read.ensures.done))
