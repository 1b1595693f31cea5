use Rattle.text_lines.proofs.Cut.{cut-return, cut-other}
use Rattle.text_lines.proofs.cuts.cut_return.Goals as goal

pub returns-then-last-eq13 : goal.returns-then-last-eq13
returns-then-last-eq13 c = cut-return _ c.in-len1-up.len_at_least c.if-last-eq13.true

pub returns-else-last-eq13 : goal.returns-else-last-eq13
returns-else-last-eq13 c = cut-other _ c.in-len1-up.len_at_least c.if-last-eq13.false
