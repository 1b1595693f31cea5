use Rattle.compose_filter.proofs.Law.{one_to_one}
use Rattle.compose_filter.proofs.laws.one_composed_path.Goals as goal

pub returns : goal.returns
returns c = record { law = one_to_one }
