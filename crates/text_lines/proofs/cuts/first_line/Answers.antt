use Rattle.text_lines.proofs.Cut.{first-found, none-found}
use Rattle.text_lines.proofs.cuts.first_line.Goals as goal

pub returns-in-Some-clause-first : goal.returns-in-Some-clause-first
returns-in-Some-clause-first c = first-found _ _ _ _ c.find_byte.ensures c.in-Some.is c.cut_return.ensures

pub returns-in-None-clause-first : goal.returns-in-None-clause-first
returns-in-None-clause-first c = none-found _ _ c.find_byte.ensures c.in-None.is c.requires
