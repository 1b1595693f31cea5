use Rattle.speak_core.specs.Reports.{reporting_of}
use Rattle.speak_core.proofs.Doing.{checked_writes, where_known}
use Rattle.speak_core.proofs.Said.{said_count, some_none}
use Rattle.speak_core.proofs.running.do_work.Goals as goal

pub returns-in-Checked-clause-done : goal.returns-in-Checked-clause-done
returns-in-Checked-clause-done g c =
    checked_writes c.args.work c.in-Checked.text (reporting_of c.args.settings) (g.S.Source.left c.args.source.now) _ _ _ _ c.tell_sizes.result c.in-Checked.is c.deref.ensures.value c.tell_sizes.ensures.all

pub returns-in-Checked-clause-err_front : goal.returns-in-Checked-clause-err_front
returns-in-Checked-clause-err_front g c = where_known (g.S.Source.left c.args.source.now) _ (λ input answers said. some_none _ _ answers _ (said_count _ _ answers said))
