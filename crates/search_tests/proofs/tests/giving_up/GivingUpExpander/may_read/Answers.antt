use Rattle.std.proofs.Common.{◌∷◌, [], subst}
use Rattle.state_tuples.specs.Cascades.{Cascaded}
use Rattle.state_tuples.specs.Calls.{CannotRead}
use Rattle.search_tests.proofs.tests.giving_up.GivingUpExpander.may_read.Goals as goal

pub returns : goal.returns
returns c = record { none = λ e. subst (λ (v : Cascaded). CannotRead (v ∷ []) c.args.t.now c.args.label) c.self.view_is (c.may_read.ensures.none e) }
