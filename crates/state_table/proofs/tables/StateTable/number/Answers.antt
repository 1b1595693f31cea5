use Rattle.state_table.proofs.Finding.{distinct_from}
use Rattle.state_table.proofs.tables.StateTable.number.Goals as goal

pub invariant_of-self-2 : goal.invariant_of-self-2
invariant_of-self-2 g c = distinct_from c.insert_full.new.self.keys _ c.insert_full.ensures.unique g.met.K.Eq.laws.refl

pub returns-clause-distinct : goal.returns-clause-distinct
returns-clause-distinct g c = distinct_from c.insert_full.new.self.keys _ c.insert_full.ensures.unique g.met.K.Eq.laws.refl
