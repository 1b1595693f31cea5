use Rattle.least_path.proofs.Refused.{not_true}
use Rattle.least_path.proofs.ending.is_refused.Goals as goal

pub returns-then-arc-ne0 : goal.returns-then-arc-ne0
returns-then-arc-ne0 g c = λ e. (c.if-arc-ne0.true, c.may_read.ensures.none (not_true c.may_read.result e))
