use Rattle.std.proofs.Common.{◌==◌, ℕ, [], ap, refl, subst}
use Rattle.norm_base.proofs.Front.{prefix_none}
use Rattle.speak_core.specs.Outputs.{sample_lines}
use Rattle.sample_lines.specs.Summary.{totals_of}
use Rattle.speak_core.specs.Crews.{HasRun}
use Rattle.speak_core.specs.Reports.{batches_of, reporting_of}
use Rattle.speak_core.specs.Parts.{SumsUpBy, says_of}
use Rattle.speak_core.proofs.Doing.{front_until}
use Rattle.speak_core.proofs.Said.{speaker_once}
use Rattle.speak_core.proofs.Sums.{sample_counted, sample_swept, summed_output, summed_until, summed_writes, sums_anew}
use Rattle.speak_core.proofs.Leaving.{sample_leaves}
use Rattle.speak_core.proofs.sampling.speak_sample.Goals as goal

pub returns-in_err-summary-clause-out_front : goal.returns-in_err-summary-clause-out_front
returns-in_err-summary-clause-out_front g c = λ answers said. prefix_none _ _

pub returns-in_err-tell-clause-out_front : goal.returns-in_err-tell-clause-out_front
returns-in_err-tell-clause-out_front g c = λ answers said. prefix_none _ _

pub returns-in_err-text-clause-out_front : goal.returns-in_err-text-clause-out_front
returns-in_err-text-clause-out_front g c = λ answers said. prefix_none _ _

pub returns-in_err-summary-clause-err_front : goal.returns-in_err-summary-clause-err_front
returns-in_err-summary-clause-err_front g c = front_until (says_of c.args.sample.loaded.speaker) (reporting_of c.args.sample.loaded.crew.settings) _ (sample_lines c.args.sample.count c.args.sample.start) _ _ c.new-report.ensures.wanted c.sum_up.ensures.front

pub returns-in_err-tell-clause-err_front : goal.returns-in_err-tell-clause-err_front
returns-in_err-tell-clause-err_front g c = summed_until (says_of c.args.sample.loaded.speaker) (reporting_of c.args.sample.loaded.crew.settings) _ (sample_lines c.args.sample.count c.args.sample.start) _ _ _ _ _ (sums_anew (says_of c.args.sample.loaded.speaker) _ _ _ _ (sample_lines c.args.sample.count c.args.sample.start) _ _ _ _ c.new-report.ensures.wanted c.new-report.ensures.total c.in_ok-summary.ensures.done.0) (speaker_once c.args.sample.loaded.speaker) _ (sample_counted _ c.args.sample.count c.args.sample.start c.in_ok-summary.ensures.count) _ (sample_swept c.args.sample.loaded.crew.settings c.args.sample.count c.args.sample.start _ c.in_ok-summary.ensures.swept) (rw (c.sum_up.ensures.wanted, c.new-report.ensures.wanted, c.beside.ensures, c.sum_up.ensures.settings) at c.tell.ensures.front)

pub returns-in_err-text-clause-err_front : goal.returns-in_err-text-clause-err_front
returns-in_err-text-clause-err_front g c = summed_until (says_of c.args.sample.loaded.speaker) (reporting_of c.args.sample.loaded.crew.settings) _ (sample_lines c.args.sample.count c.args.sample.start) _ _ _ _ _ (sums_anew (says_of c.args.sample.loaded.speaker) _ _ _ _ (sample_lines c.args.sample.count c.args.sample.start) _ _ _ _ c.new-report.ensures.wanted c.new-report.ensures.total c.in_ok-summary.ensures.done.0) (speaker_once c.args.sample.loaded.speaker) _ (sample_counted _ c.args.sample.count c.args.sample.start c.in_ok-summary.ensures.count) _ (sample_swept c.args.sample.loaded.crew.settings c.args.sample.count c.args.sample.start _ c.in_ok-summary.ensures.swept) (rw (c.sum_up.ensures.wanted, c.new-report.ensures.wanted, c.beside.ensures, c.sum_up.ensures.settings) at c.tell.ensures.front)

pub returns-in_err-put-clause-err_front : goal.returns-in_err-put-clause-err_front
returns-in_err-put-clause-err_front g c = summed_until (says_of c.args.sample.loaded.speaker) (reporting_of c.args.sample.loaded.crew.settings) _ (sample_lines c.args.sample.count c.args.sample.start) _ _ _ _ _ (sums_anew (says_of c.args.sample.loaded.speaker) _ _ _ _ (sample_lines c.args.sample.count c.args.sample.start) _ _ _ _ c.new-report.ensures.wanted c.new-report.ensures.total c.in_ok-summary.ensures.done.0) (speaker_once c.args.sample.loaded.speaker) _ (sample_counted _ c.args.sample.count c.args.sample.start c.in_ok-summary.ensures.count) _ (sample_swept c.args.sample.loaded.crew.settings c.args.sample.count c.args.sample.start _ c.in_ok-summary.ensures.swept) (rw (c.sum_up.ensures.wanted, c.new-report.ensures.wanted, c.beside.ensures, c.sum_up.ensures.settings) at c.tell.ensures.front)

pub returns-clause-err_front : goal.returns-clause-err_front
returns-clause-err_front g c = summed_until (says_of c.args.sample.loaded.speaker) (reporting_of c.args.sample.loaded.crew.settings) _ (sample_lines c.args.sample.count c.args.sample.start) _ _ _ _ _ (sums_anew (says_of c.args.sample.loaded.speaker) _ _ _ _ (sample_lines c.args.sample.count c.args.sample.start) _ _ _ _ c.new-report.ensures.wanted c.new-report.ensures.total c.in_ok-summary.ensures.done.0) (speaker_once c.args.sample.loaded.speaker) _ (sample_counted _ c.args.sample.count c.args.sample.start c.in_ok-summary.ensures.count) _ (sample_swept c.args.sample.loaded.crew.settings c.args.sample.count c.args.sample.start _ c.in_ok-summary.ensures.swept) (rw (c.sum_up.ensures.wanted, c.new-report.ensures.wanted, c.beside.ensures, c.sum_up.ensures.settings) at c.tell.ensures.front)

pub returns-in_err-put-clause-out_front : goal.returns-in_err-put-clause-out_front
returns-in_err-put-clause-out_front g c = summed_output (says_of c.args.sample.loaded.speaker) (reporting_of c.args.sample.loaded.crew.settings) _ (sample_lines c.args.sample.count c.args.sample.start) c.in_ok-summary.summary _ _ (g.E.Sink.held c.args.err.now) (sums_anew (says_of c.args.sample.loaded.speaker) _ _ _ _ (sample_lines c.args.sample.count c.args.sample.start) _ _ _ _ c.new-report.ensures.wanted c.new-report.ensures.total c.in_ok-summary.ensures.done.0) c.in_ok-text.text.items c.in_ok-text.ensures (speaker_once c.args.sample.loaded.speaker) _ _ (rw c.deref.ensures.value at c.put.ensures.front)

pub returns-clause-out_front : goal.returns-clause-out_front
returns-clause-out_front g c = summed_output (says_of c.args.sample.loaded.speaker) (reporting_of c.args.sample.loaded.crew.settings) _ (sample_lines c.args.sample.count c.args.sample.start) c.in_ok-summary.summary _ _ (g.E.Sink.held c.args.err.now) (sums_anew (says_of c.args.sample.loaded.speaker) _ _ _ _ (sample_lines c.args.sample.count c.args.sample.start) _ _ _ _ c.new-report.ensures.wanted c.new-report.ensures.total c.in_ok-summary.ensures.done.0) c.in_ok-text.text.items c.in_ok-text.ensures (speaker_once c.args.sample.loaded.speaker) _ _ (rw c.deref.ensures.value at c.put.ensures.front)

pub returns-clause-done : goal.returns-clause-done
returns-clause-done g c =
    summed_writes (says_of c.args.sample.loaded.speaker) (reporting_of c.args.sample.loaded.crew.settings) _ (sample_lines c.args.sample.count c.args.sample.start) c.in_ok-summary.summary _ _ _ (sums_anew (says_of c.args.sample.loaded.speaker) _ _ _ _ (sample_lines c.args.sample.count c.args.sample.start) _ _ _ _ c.new-report.ensures.wanted c.new-report.ensures.total c.in_ok-summary.ensures.done.0) c.in_ok-text.text.items c.in_ok-text.ensures _ _ _ (rw c.deref.ensures.value at c.in_ok-put.ensures.all) (ap (λ (n : ℕ). n == 0) c.refused.ensures)
    _ (sample_counted _ c.args.sample.count c.args.sample.start c.in_ok-summary.ensures.count) _ (sample_swept c.args.sample.loaded.crew.settings c.args.sample.count c.args.sample.start _ c.in_ok-summary.ensures.swept) (rw (c.sum_up.ensures.wanted, c.new-report.ensures.wanted, c.beside.ensures, c.sum_up.ensures.settings) at c.in_ok-tell.ensures.all)

pub returns-clause-left : goal.returns-clause-left
returns-clause-left g c =
    let many = sample_counted _ c.args.sample.count c.args.sample.start refl in
    sample_leaves (says_of c.args.sample.loaded.speaker) c.args.sample.loaded.speaker.normaliser c.args.sample.loaded.crew.settings c.sum_up.new.crew c.sum_up.ensures.settings c.in_ok-summary.ensures.ready (sample_lines c.args.sample.count c.args.sample.start) _ c.new-report.ensures.wanted _ _ c.new-report.ensures.total _ _ _ _ (sample_counted _ c.args.sample.count c.args.sample.start c.in_ok-summary.ensures.count) (sample_swept c.args.sample.loaded.crew.settings c.args.sample.count c.args.sample.start _ c.in_ok-summary.ensures.swept)
    (rw (c.sum_up.ensures.wanted, c.new-report.ensures.wanted, c.beside.ensures, c.sum_up.ensures.settings) at c.in_ok-tell.ensures.all) _ _ (subst (λ (k : ℕ). SumsUpBy (λ ts. HasRun c.args.sample.loaded.speaker.normaliser c.sum_up.new.crew ts (batches_of k)) (says_of c.args.sample.loaded.speaker) c.new-report.result.is_wanted 1 c.new-report.result.total c.sum_up.new.report.total (sample_lines c.args.sample.count c.args.sample.start) (totals_of []) c.in_ok-summary.summary (g.E.Sink.held c.args.err.now) (g.E.Sink.held c.sum_up.new.err)) many c.in_ok-summary.ensures.done)
