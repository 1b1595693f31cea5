use Rattle.std.proofs.Common.{Ok, ap, ◌∙◌}
use Rattle.merged_arcs.proofs.merges.merge_arcs.Goals as goal

pub returns-in-Whole-clause-readings : goal.returns-in-Whole-clause-readings
returns-in-Whole-clause-readings c = c.of_sets.ensures.readings c.in-Whole.fst (c.in_ok-fst.was ∙ ap (λ b. Ok b) c.in-Whole.is)
