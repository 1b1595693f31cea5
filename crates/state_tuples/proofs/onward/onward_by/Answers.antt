use Rattle.state_tuples.proofs.OnePart.{all_read}
use Rattle.state_tuples.proofs.onward.onward_by.Goals as goal

pub returns-then-sorted-clause-reads : goal.returns-then-sorted-clause-reads
returns-then-sorted-clause-reads c = λ e. all_read c.args.row.now (record { input = 0; output = 0; weight = 0; next = 0 }) (c.requires.sorted c.if-sorted.true) c.if-first-ne0.true
