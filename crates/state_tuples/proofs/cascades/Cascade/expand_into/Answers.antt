use Rattle.std.proofs.Common.{subst}
use Rattle.state_tuples.specs.Cascades.{moves_of}
use Rattle.state_tuples.specs.Orders.{Ordered}
use Rattle.state_tuples.proofs.Staged.{every_one}
use Rattle.state_tuples.proofs.cascades.Cascade.expand_into.Goals as goal

pub returns-clause-arcs : goal.returns-clause-arcs
returns-clause-arcs c = subst (λ xs. Ordered xs c.put_moves.new.into.items) (every_one (moves_of c.args.self.now c.args.t.now)) c.in_ok-put_moves.ensures
