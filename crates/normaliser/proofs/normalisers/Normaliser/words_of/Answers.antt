use Rattle.normaliser.specs.Words.{too_many_fields}
use Rattle.normaliser.proofs.Searchings.{searched_none}
use Rattle.normaliser.proofs.normalisers.Normaliser.words_of.Goals as goal

pub returns-in-Some-clause-told : goal.returns-in-Some-clause-told
returns-in-Some-clause-told c = too_many_fields c.in-Some.token c.in-Some.ensures.found

pub returns-in-Some-clause-searched : goal.returns-in-Some-clause-searched
returns-in-Some-clause-searched c = searched_none c.args.self.now.shared c.args.caller.now
