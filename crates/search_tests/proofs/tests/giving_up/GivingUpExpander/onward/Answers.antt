use Rattle.std.proofs.Common.{◌∷◌, [], subst}
use Rattle.state_tuples.specs.Cascades.{Cascaded}
use Rattle.state_tuples.specs.Calls.{GoesOnward}
use Rattle.search_tests.proofs.tests.giving_up.GivingUpExpander.onward.Goals as goal

pub returns : goal.returns
returns c = record { told = subst (λ (v : Cascaded). GoesOnward (v ∷ []) c.args.t.now c.onward.result) c.self.view_is c.onward.ensures.told }
