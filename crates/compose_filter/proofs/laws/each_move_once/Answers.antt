use Rattle.compose_filter.proofs.Named.{listed}
use Rattle.compose_filter.proofs.TwoParts.{two_parts}
use Rattle.compose_filter.proofs.laws.each_move_once.Goals as goal

pub returns : goal.returns
returns c = record { listed = listed; two = two_parts }
