use Rattle.std.proofs.Common.{◌∙◌, subst}
use Rattle.state_tuples.specs.Orders.{Ordered, moves_on}
use Rattle.state_tuples.proofs.Lists.{only_one}
use Rattle.state_tuples.proofs.privates.PrivateExpander.arcs_on.Goals as goal

pub returns-clause-arcs : goal.returns-clause-arcs
returns-clause-arcs c = λ d h o. subst (λ v. Ordered (moves_on v c.args.t.now c.args.label) c.put_moves.new.into.items) (c.self.view_is ∙ only_one c.args.self.now d h) c.in_default.ensures
