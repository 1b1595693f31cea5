use Rattle.speak_words.specs.Asked.{job_of}
use Rattle.speak_core.specs.Devices.{seen}
use Rattle.speak_core.specs.Reports.{reporting_of}
use Rattle.speak_core.proofs.Runs.{found_job, found_report, found_settings, gives_nothing, owes_nothing, run_gives, run_leaves, run_output, run_speaks, run_told, tells_nothing}
use Rattle.speak_core.proofs.running.run.Goals as goal

pub returns-in_err-asked-clause-words_front : goal.returns-in_err-asked-clause-words_front
returns-in_err-asked-clause-words_front g c = owes_nothing c.args.words.now (g.H.Shelf.files c.args.shelf.now) (g.S.Source.left c.args.source.now) (g.O.Sink.held c.args.out.now)

pub returns-in_err-asked-clause-faults_front : goal.returns-in_err-asked-clause-faults_front
returns-in_err-asked-clause-faults_front g c = tells_nothing c.args.words.now (g.H.Shelf.files c.args.shelf.now) (g.S.Source.left c.args.source.now) (g.E.Sink.held c.args.err.now)

pub returns-in_default-clause-words_front : goal.returns-in_default-clause-words_front
returns-in_default-clause-words_front g c = owes_nothing c.args.words.now (g.H.Shelf.files c.args.shelf.now) (g.S.Source.left c.args.source.now) (g.O.Sink.held c.args.out.now)

pub returns-in_default-clause-faults_front : goal.returns-in_default-clause-faults_front
returns-in_default-clause-faults_front g c = tells_nothing c.args.words.now (g.H.Shelf.files c.args.shelf.now) (g.S.Source.left c.args.source.now) (g.E.Sink.held c.args.err.now)

pub returns-in_err-work-clause-words_front : goal.returns-in_err-work-clause-words_front
returns-in_err-work-clause-words_front g c = owes_nothing c.args.words.now (g.H.Shelf.files c.args.shelf.now) (g.S.Source.left c.args.source.now) (g.O.Sink.held c.args.out.now)

pub returns-in_err-work-clause-faults_front : goal.returns-in_err-work-clause-faults_front
returns-in_err-work-clause-faults_front g c = tells_nothing c.args.words.now (g.H.Shelf.files c.args.shelf.now) (g.S.Source.left c.args.source.now) (g.E.Sink.held c.args.err.now)

pub returns-clause-done : goal.returns-clause-done
returns-clause-done g c =
    run_speaks c.args.words.now (job_of c.in-Some.asked.mode) (found_job _ _ _ c.in-Some.is c.in_ok-asked.ensures.asked) c.in_ok-work.work (reporting_of c.in-Some.asked.settings) (found_report (λ a. a.settings) _ _ _ c.in-Some.is c.in_ok-asked.ensures.settings) (g.H.Shelf.files c.args.shelf.now) (g.S.Source.left c.args.source.now)
    (seen g.H.Shelf g.S.Source g.O.Sink g.E.Sink c.args.shelf.now c.args.source.now c.args.out.now c.args.err.now c.find_work.new.shelf c.do_work.new.source c.do_work.new.out c.do_work.new.err) c.do_work.result c.in_ok-work.ensures.finds c.do_work.ensures.done

pub returns-clause-words_front : goal.returns-clause-words_front
returns-clause-words_front g c =
    run_output c.args.words.now (job_of c.in-Some.asked.mode) (found_job _ _ _ c.in-Some.is c.in_ok-asked.ensures.asked) c.in_ok-work.work (g.O.Sink.held c.args.out.now) (g.O.Sink.held c.do_work.new.out) (g.H.Shelf.files c.args.shelf.now) (g.S.Source.left c.args.source.now) c.in_ok-work.ensures.finds c.do_work.ensures.out_front

pub returns-clause-faults_front : goal.returns-clause-faults_front
returns-clause-faults_front g c =
    run_told c.args.words.now (job_of c.in-Some.asked.mode) (found_job _ _ _ c.in-Some.is c.in_ok-asked.ensures.asked) c.in_ok-work.work (reporting_of c.in-Some.asked.settings) (found_report (λ a. a.settings) _ _ _ c.in-Some.is c.in_ok-asked.ensures.settings) (g.E.Sink.held c.args.err.now) (g.E.Sink.held c.do_work.new.err) (g.H.Shelf.files c.args.shelf.now) (g.S.Source.left c.args.source.now) c.in_ok-work.ensures.finds c.do_work.ensures.err_front

pub returns-in_err-asked-clause-given : goal.returns-in_err-asked-clause-given
returns-in_err-asked-clause-given g c = gives_nothing c.args.words.now (g.H.Shelf.files c.args.shelf.now) (g.S.Source.left c.args.source.now) (g.O.Sink.held c.args.out.now)

pub returns-in_default-clause-given : goal.returns-in_default-clause-given
returns-in_default-clause-given g c = gives_nothing c.args.words.now (g.H.Shelf.files c.args.shelf.now) (g.S.Source.left c.args.source.now) (g.O.Sink.held c.args.out.now)

pub returns-in_err-work-clause-given : goal.returns-in_err-work-clause-given
returns-in_err-work-clause-given g c = gives_nothing c.args.words.now (g.H.Shelf.files c.args.shelf.now) (g.S.Source.left c.args.source.now) (g.O.Sink.held c.args.out.now)

pub returns-clause-given : goal.returns-clause-given
returns-clause-given g c =
    run_gives c.args.words.now (job_of c.in-Some.asked.mode) (found_job _ _ _ c.in-Some.is c.in_ok-asked.ensures.asked) c.in_ok-work.work (g.O.Sink.held c.args.out.now) (g.O.Sink.held c.do_work.new.out) (g.H.Shelf.files c.args.shelf.now) (g.S.Source.left c.args.source.now) (g.S.Source.left c.do_work.new.source)
    c.in_ok-work.ensures.reads c.in_ok-work.ensures.finds c.do_work.ensures.given c.do_work.ensures.kept

pub returns-clause-left : goal.returns-clause-left
returns-clause-left g c =
    run_leaves c.args.words.now (job_of c.in-Some.asked.mode) (found_job _ _ _ c.in-Some.is c.in_ok-asked.ensures.asked) c.in_ok-work.work c.in-Some.asked.settings (found_settings (λ a. a.settings) _ _ _ c.in-Some.is c.in_ok-asked.ensures.settings) c.do_work.new.callers.items (g.E.Sink.held c.args.err.now) (g.E.Sink.held c.do_work.new.err) (g.H.Shelf.files c.args.shelf.now) (g.S.Source.left c.args.source.now) c.do_work.result c.in_ok-work.ensures.finds c.do_work.ensures.left
