use Rattle.least_path.proofs.Refused.{not_true}
use Rattle.least_path.proofs.ending.is_no_end.Goals as goal

pub returns-else-is_none : goal.returns-else-is_none
returns-else-is_none g c = λ e w h. c.may_read.ensures.none (not_true c.may_read.result e)
