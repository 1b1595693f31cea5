use Rattle.std.proofs.Common.{◌-◌, ◌^◌, length}
use Rattle.weighted_relations.specs.Graphs.{GraphReads}
use Rattle.weighted_relations.specs.Relations.{Same}
use Rattle.field_orders.specs.Orders.{OrdersOf}
use Rattle.field_orders.specs.Sources.{IsSource, graph_of}
use Rattle.field_orders.proofs.Exploring.{Explored}
use Rattle.field_orders.proofs.acceptors.orders.Given as goal

abbrev pub invariant-loop-alloc : goal.invariant-loop-alloc
invariant-loop-alloc l = IsSource l.source × Explored l.source l.built × Same (GraphReads (graph_of l.source)) (OrdersOf l.fn.r)

abbrev pub decreases-loop-alloc : goal.decreases-loop-alloc
decreases-loop-alloc l = 2 ^ 63 - length l.built.arcs
