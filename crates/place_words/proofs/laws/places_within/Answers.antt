use Rattle.place_words.proofs.Changes.{places_within}
use Rattle.place_words.proofs.laws.places_within.Goals as goal

pub returns : goal.returns
returns g c = places_within g.F.Fact.right
