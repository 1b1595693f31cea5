use Rattle.place_words.proofs.Changes.{readers_keep}
use Rattle.place_words.proofs.laws.readers_keep.Goals as goal

pub returns : goal.returns
returns g c = readers_keep g.F.Fact.right
