use Rattle.place_words.proofs.Dealing.{opens, deals}
use Rattle.place_words.proofs.laws.starts_lawful.Goals as goal

pub returns-clause-start : goal.returns-clause-start
returns-clause-start g c = opens g.F.Fact.right

pub returns-clause-deals : goal.returns-clause-deals
returns-clause-deals g c = deals g.F.Fact.right
