use Rattle.std.proofs.Common.{sym, subst}
use Rattle.state_tuples.specs.Cascades.{moves_of}
use Rattle.state_tuples.specs.Orders.{Ordered}
use Rattle.shared_cascade.specs.Callers.{cascades_in}
use Rattle.shared_cascade.proofs.Handing.{of_the_named}
use Rattle.shared_cascade.proofs.shared.Shared.make.Goals as goal

pub expand_into-requires : goal.expand_into-requires
expand_into-requires c = record { known = of_the_named (cascades_in c.args.self.now) c.args.t.now c.cascade_of-cascade.result.now c.cascade_of-cascade.ensures.named c.requires.known }

pub publish-outcome-requires-clause-made : goal.publish-outcome-requires-clause-made
publish-outcome-requires-clause-made c = (
  c.cascade_of-cascade.result.now,
  c.cascade_of-cascade.ensures.among,
  of_the_named (cascades_in c.args.self.now) c.args.t.now c.cascade_of-cascade.result.now c.cascade_of-cascade.ensures.named c.requires.known,
  c.in-Ok.ensures.arcs,
  c.in-Ok.ensures.finality,
)

pub returns-in-Ok-clause-found : goal.returns-in-Ok-clause-found
returns-in-Ok-clause-found c = (
  c.cascade_of-cascade.result.now,
  c.cascade_of-cascade.ensures.among,
  of_the_named (cascades_in c.args.self.now) c.args.t.now c.cascade_of-cascade.result.now c.cascade_of-cascade.ensures.named c.requires.known,
  subst (Ordered (moves_of c.cascade_of-cascade.result.now c.args.t.now)) (sym c.publish-outcome.ensures.kept) c.in-Ok.ensures.arcs,
  c.in-Ok.ensures.finality,
)
