use Rattle.std.proofs.Common.{sym, ◌∙◌}
use Rattle.least_path.proofs.marks.is_no_greater.Goals as goal

pub is_before-requires-clause-first : goal.is_before-requires-clause-first
is_before-requires-clause-first c = c.requires.best c.in-Some.best (sym c.best.ensures ∙ c.in-Some.is)
