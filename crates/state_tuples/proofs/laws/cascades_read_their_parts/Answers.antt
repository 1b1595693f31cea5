use Rattle.state_tuples.proofs.TuplePaths.{reads_its_parts}
use Rattle.state_tuples.proofs.laws.cascades_read_their_parts.Goals as goal

pub returns : goal.returns
returns c = reads_its_parts
