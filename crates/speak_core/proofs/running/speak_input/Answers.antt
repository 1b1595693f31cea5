use Rattle.text_lines.specs.Lines.{lines}
use Rattle.speak_core.specs.Parts.{says_of}
use Rattle.speak_core.specs.Reports.{reporting_of}
use Rattle.speak_core.proofs.Doing.{front_until, of_known, of_three, speaks_anew, speaks_until, speaks_writes}
use Rattle.speak_core.proofs.Said.{speaker_once}
use Rattle.speak_core.proofs.Leaving.{input_leaves}
use Rattle.speak_core.proofs.running.speak_input.Goals as goal

pub returns-in_err-is_read-clause-err_front : goal.returns-in_err-is_read-clause-err_front
returns-in_err-is_read-clause-err_front g c =
    of_known (g.S.Source.left c.args.source.now) _ _ (λ input. front_until (says_of c.args.loaded.speaker) (reporting_of c.args.loaded.crew.settings) _ (lines input) _ _ c.new-report.ensures.wanted) c.speak_lines.ensures.err_front

pub returns-in_err-tell-clause-err_front : goal.returns-in_err-tell-clause-err_front
returns-in_err-tell-clause-err_front g c =
    of_three (g.S.Source.left c.args.source.now) _ _ _ _
    (λ input done count swept. speaks_until (says_of c.args.loaded.speaker) (reporting_of c.args.loaded.crew.settings) _ (lines input) _ _ _ _ _ _ (speaks_anew (says_of c.args.loaded.speaker) _ _ _ _ (lines input) _ _ _ _ _ c.new-report.ensures.wanted c.new-report.ensures.total done.0) (speaker_once c.args.loaded.speaker) _ count _ swept (rw (c.speak_lines.ensures.wanted, c.new-report.ensures.wanted, c.beside.ensures, c.speak_lines.ensures.settings) at c.tell.ensures.front))
    c.in_ok-is_read.ensures.done c.in_ok-is_read.ensures.count c.in_ok-is_read.ensures.swept

pub returns-clause-err_front : goal.returns-clause-err_front
returns-clause-err_front g c =
    of_three (g.S.Source.left c.args.source.now) _ _ _ _
    (λ input done count swept. speaks_until (says_of c.args.loaded.speaker) (reporting_of c.args.loaded.crew.settings) _ (lines input) _ _ _ _ _ _ (speaks_anew (says_of c.args.loaded.speaker) _ _ _ _ (lines input) _ _ _ _ _ c.new-report.ensures.wanted c.new-report.ensures.total done.0) (speaker_once c.args.loaded.speaker) _ count _ swept (rw (c.speak_lines.ensures.wanted, c.new-report.ensures.wanted, c.beside.ensures, c.speak_lines.ensures.settings) at c.tell.ensures.front))
    c.in_ok-is_read.ensures.done c.in_ok-is_read.ensures.count c.in_ok-is_read.ensures.swept

pub returns-clause-done : goal.returns-clause-done
returns-clause-done g c =
    of_three (g.S.Source.left c.args.source.now) _ _ _ _
    (λ input done count swept. speaks_writes (says_of c.args.loaded.speaker) (reporting_of c.args.loaded.crew.settings) _ (lines input) _ _ _ _ _ _ (speaks_anew (says_of c.args.loaded.speaker) _ _ _ _ (lines input) _ _ _ _ _ c.new-report.ensures.wanted c.new-report.ensures.total done.0) _ count _ swept (rw (c.speak_lines.ensures.wanted, c.new-report.ensures.wanted, c.beside.ensures, c.speak_lines.ensures.settings) at c.in_ok-tell.ensures.all))
    c.in_ok-is_read.ensures.done c.in_ok-is_read.ensures.count c.in_ok-is_read.ensures.swept

pub returns-clause-left : goal.returns-clause-left
returns-clause-left g c =
    of_three (g.S.Source.left c.args.source.now) _ _ _ _
    (λ input done count swept. input_leaves (says_of c.args.loaded.speaker) c.args.loaded.speaker.normaliser c.args.loaded.crew.settings c.speak_lines.new.crew c.speak_lines.ensures.settings c.in_ok-is_read.ensures.ready (lines input) _ c.new-report.ensures.wanted _ _ c.new-report.ensures.total _ _ _ _ count swept (rw (c.speak_lines.ensures.wanted, c.new-report.ensures.wanted, c.beside.ensures, c.speak_lines.ensures.settings) at c.in_ok-tell.ensures.all) _ _ c.in_ok-is_read.is_read done)
    c.in_ok-is_read.ensures.done c.in_ok-is_read.ensures.count c.in_ok-is_read.ensures.swept
