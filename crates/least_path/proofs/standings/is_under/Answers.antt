use Rattle.least_path.proofs.standings.is_under.Goals as goal

pub is_before-requires-clause-first : goal.is_before-requires-clause-first
is_before-requires-clause-first c = c.requires.best c.in-Met.best c.in-Met.is
