use Rattle.place_words.proofs.Keeps.{steps_keep}
use Rattle.place_words.proofs.laws.steps_keep.Goals as goal

pub returns : goal.returns
returns g c = steps_keep g.F.Fact.right (λ t code h. (g.F.Fact.sized t code h).1)
