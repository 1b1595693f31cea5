use Rattle.std.proofs.Common.{arith, ◌≡◌, ◌∙◌, ◌<◌, ◌≤◌, sym, ap, subst, length}
use Rattle.weighted_relations.specs.Graphs.{GraphReads}
use Rattle.weighted_relations.specs.Machines.{Reads, WellFormed}
use Rattle.weighted_relations.specs.Relations.{Same}
use Rattle.weighted_relations.specs.RelationLaws.{same_trans}
use Rattle.fst_core.specs.States.{as_machine}
use Rattle.field_orders.specs.Orders.{OrdersOf}
use Rattle.field_orders.specs.Remainders.{Rest, final_at}
use Rattle.field_orders.specs.Sources.{Source, IsState, HasArcs, graph_of}
use Rattle.field_orders.proofs.Exploring.{explored_more, explored_sound, explored_top, explored_unmarked, explored_reads, more_within}
use Rattle.field_orders.proofs.acceptors.orders.Goals as goal

pub is_final-requires : goal.is_final-requires
is_final-requires c = record { state = more_within c.loop-alloc.source c.arcs.new.self c.len-state.result c.in_ok-row.ensures.same (omega arith) }

pub loop-alloc-preserved : goal.loop-alloc-preserved
loop-alloc-preserved c =
    let i = c.loop-alloc.invariant in
    let s = c.loop-alloc.source in
    let b = c.loop-alloc.built in
    let n : c.len-state.result ≡ length b.arcs = c.len-state.ensures.count in
    let l : length b.arcs < length s.states = omega arith in
    let arcs : HasArcs s c.arcs.new.self (length b.arcs) c.in_ok-row.row.items = subst (λ k. HasArcs s c.arcs.new.self k c.in_ok-row.row.items) n c.in_ok-row.ensures.arcs in
    let ends : (r : Rest) → IsState c.arcs.new.self (length b.arcs) r → final_at r ≡ c.final_weight.result = λ r m. c.is_final.ensures.last r (subst (λ k. IsState c.arcs.new.self k r) (sym n) m) ∙ sym c.final_weight.ensures in (
      c.in_ok-row.ensures.source,
      explored_more s c.arcs.new.self b c.push.new.self c.in_ok-row.row.items c.final_weight.result i.0 c.in_ok-row.ensures.same i.1 l c.in_ok-push.ensures.value arcs ends,
      subst (λ (z : Source). Same (GraphReads (graph_of z)) (OrdersOf c.args.r.now)) (sym c.in_ok-row.ensures.same.is) i.2,
    )

pub finish-requires : goal.finish-requires
finish-requires c =
    let i = c.loop-alloc.invariant in
    let all : length c.loop-alloc.source.states ≤ length c.loop-alloc.built.arcs = omega arith in
    record { sound = subst (λ k. WellFormed (as_machine k c.loop-alloc.built)) (sym c.start.ensures.value) (explored_sound c.loop-alloc.source c.loop-alloc.built i.0 i.1 all) }

pub returns-clause-readings : goal.returns-clause-readings
returns-clause-readings c =
    let i = c.loop-alloc.invariant in
    let s = c.loop-alloc.source in
    let all : length s.states ≤ length c.loop-alloc.built.arcs = omega arith in
    same_trans (Reads c.finish.result) (GraphReads (graph_of s)) (OrdersOf c.args.r.now) (explored_reads s c.loop-alloc.built i.0 i.1 all c.finish.result (c.finish.ensures.value ∙ ap (λ k. as_machine k c.loop-alloc.built) c.start.ensures.value)) i.2

pub returns-clause-unmarked : goal.returns-clause-unmarked
returns-clause-unmarked c =
    let i = c.loop-alloc.invariant in
    let s = c.loop-alloc.source in
    let all : length s.states ≤ length c.loop-alloc.built.arcs = omega arith in
    explored_unmarked s c.loop-alloc.built i.0 i.1 all c.finish.result (c.finish.ensures.value ∙ ap (λ k. as_machine k c.loop-alloc.built) c.start.ensures.value)

pub returns-clause-top : goal.returns-clause-top
returns-clause-top c =
    let i = c.loop-alloc.invariant in
    let s = c.loop-alloc.source in
    let all : length s.states ≤ length c.loop-alloc.built.arcs = omega arith in
    explored_top s c.loop-alloc.built i.0 i.1 all c.finish.result (c.finish.ensures.value ∙ ap (λ k. as_machine k c.loop-alloc.built) c.start.ensures.value)
