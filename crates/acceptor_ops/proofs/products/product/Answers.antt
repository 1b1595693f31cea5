use Rattle.std.proofs.Common.{◌≡◌, ◌≤◌, ◌<◌, [], false, length, get_or, subst, sym, arith}
use Rattle.std.proofs.lemmas.Option.{get_or_from_slice_get}
use Rattle.weighted_relations.specs.Relations.{Same}
use Rattle.weighted_relations.specs.Machines.{Reads, final_of}
use Rattle.fst_core.specs.States.{States}
use Rattle.fst_core.specs.Top.{top_of}
use Rattle.acceptor_ops.specs.Tables.{Accepts, Except}
use Rattle.state_table.specs.Numbers.{Numbers}
use Rattle.acceptor_ops.specs.Beside.{Pair, no_pair, final_beside}
use Rattle.acceptor_ops.proofs.Besides.{pair_at, Producing, producing_none, producing_more, produced, product_reads, product_top}
use Rattle.acceptor_ops.proofs.products.product.Goals as goal

pub loop-alloc-init : goal.loop-alloc-init
loop-alloc-init c =
    let add : Numbers [] c.number.new.self (c.args.a.now.start, c.args.d.now.start) c.in_ok-start.start =
    subst (λ s. Numbers [] c.number.new.self (s, c.args.d.now.start) c.in_ok-start.start) c.start.ensures.value
    (subst (λ s. Numbers [] c.number.new.self (c.start.result, s) c.in_ok-start.start) c.start-2.ensures.value
    (subst (λ v. Numbers v c.number.new.self (c.start.result, c.start-2.result) c.in_ok-start.start) c.new-pairs.ensures.value c.in_ok-start.ensures.number)) in
    subst (λ (b : States). Producing c.args.a.now c.args.d.now c.in_ok-start.start c.number.new.self b.arcs b.finals) (sym c.new-built.ensures.value)
    (producing_none c.args.a.now c.args.d.now c.in_ok-start.start c.number.new.self c.start.ensures.sound c.start-2.ensures.total add)

pub accepts-requires : goal.accepts-requires
accepts-requires c = record { within = (pair_at c.args.a.now c.args.d.now c.loop-alloc.pairs c.len-in-loop-alloc-2.result c.key.result.now c.loop-alloc.invariant.are c.key.ensures.value).second }

pub final_of-requires : goal.final_of-requires
final_of-requires c = record { state = (pair_at c.args.a.now c.args.d.now c.loop-alloc.pairs c.len-in-loop-alloc-2.result c.key.result.now c.loop-alloc.invariant.are c.key.ensures.value).first }

pub loop-alloc-preserved : goal.loop-alloc-preserved
loop-alloc-preserved c =
    let k = c.len-in-loop-alloc-2.result in
    let p : Pair = c.key.result.now in
    let at : p ≡ get_or c.loop-alloc.pairs k no_pair = sym (get_or_from_slice_get c.loop-alloc.pairs k p no_pair c.key.ensures.value) in
    let e : k ≡ length c.loop-alloc.built.arcs = c.len-in-loop-alloc-2.ensures.count in
    let l : k < length c.loop-alloc.pairs = omega arith in
    let end : c.end.result ≡ final_beside (get_or c.args.d.now.accepting p.1 false) (final_of c.args.a.now.finals p.0) = cc (c.end.ensures.value, c.accepts.ensures.value, c.final_of.ensures.value) in
    subst (λ (b : States). Producing c.args.a.now c.args.d.now c.in_ok-start.start c.beside.new.pairs b.arcs b.finals) (sym c.in_ok-push.ensures.value)
    (producing_more c.args.a.now c.args.d.now c.in_ok-start.start k c.loop-alloc.pairs c.beside.new.pairs c.loop-alloc.built.arcs c.loop-alloc.built.finals p c.in_ok-row.row.items c.end.result c.loop-alloc.invariant e l at c.in_ok-row.ensures.arcs end)

pub finish-requires : goal.finish-requires
finish-requires c =
    let done : length c.loop-alloc.pairs ≤ length c.loop-alloc.built.arcs = omega arith in
    record { sound = produced c.args.a.now c.args.d.now c.in_ok-start.start c.loop-alloc.pairs c.loop-alloc.built.arcs c.loop-alloc.built.finals c.start.ensures.sound c.start-2.ensures.total c.loop-alloc.invariant done }

pub returns-clause-readings : goal.returns-clause-readings
returns-clause-readings c =
    let done : length c.loop-alloc.pairs ≤ length c.loop-alloc.built.arcs = omega arith in
    subst (λ m. Same (Reads m) (Except (Reads c.args.a.now) (Accepts c.args.d.now))) (sym c.finish.ensures.value)
    (product_reads c.args.a.now c.args.d.now c.in_ok-start.start c.loop-alloc.pairs c.loop-alloc.built.arcs c.loop-alloc.built.finals c.start.ensures.sound c.start-2.ensures.total c.loop-alloc.invariant done)

pub returns-clause-top : goal.returns-clause-top
returns-clause-top c =
    let done : length c.loop-alloc.pairs ≤ length c.loop-alloc.built.arcs = omega arith in
    subst (λ m. top_of m ≤ top_of c.args.a.now) (sym c.finish.ensures.value)
    (product_top c.args.a.now c.args.d.now c.in_ok-start.start c.loop-alloc.pairs c.loop-alloc.built.arcs c.loop-alloc.built.finals c.start.ensures.sound c.start-2.ensures.total c.loop-alloc.invariant done)
