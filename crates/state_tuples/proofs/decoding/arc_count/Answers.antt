use Rattle.state_tuples.proofs.InCodes.{count_in}
use Rattle.state_tuples.proofs.decoding.arc_count.Goals as goal

pub returns : goal.returns
returns c t end arcs is = count_in t end arcs c.args.code.now is
