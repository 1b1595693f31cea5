use Rattle.least_path.proofs.Paying.{calls_before}
use Rattle.least_path.proofs.searching.least_in.Goals as goal

pub returns-in-None-clause-calls : goal.returns-in-None-clause-calls
returns-in-None-clause-calls g c = calls_before c.args.source.now (g.X.Expander.calls c.args.x.now) (g.X.Expander.calls c.least_by_lists.new.x) _ c.least_by_queue.result c.in_ok-answer.ensures.risen c.least_by_queue.ensures.calls
