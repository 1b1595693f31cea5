use Rattle.speak_setup.proofs.Steps.{part_more}
use Rattle.speak_setup.proofs.entries.read_entries.Goals as goal

pub loop-rest-preserved : goal.loop-rest-preserved
loop-rest-preserved c = part_more _ _ _ _ _ _ _ c.loop-rest.invariant c.first_line.ensures.first c.first_line.ensures.less c.in_ok-read_entry.ensures.added
