use Rattle.place_words.proofs.Changes.{writers_claim, writers_alone}
use Rattle.place_words.proofs.laws.writers_claim.Goals as goal

pub returns-clause-claim : goal.returns-clause-claim
returns-clause-claim g c = writers_claim g.F.Fact.right

pub returns-clause-alone : goal.returns-clause-alone
returns-clause-alone g c = writers_alone g.F.Fact.right
