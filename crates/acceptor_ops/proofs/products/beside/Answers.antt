use Rattle.std.proofs.Common.{◌≡◌, ◌+◌, ◌<◌, Some, length, get_or, refl, sym, subst}
use Rattle.std.specs.Prelude.{slice_get}
use Rattle.std.proofs.lemmas.Option.{slice_get-get_or}
use Rattle.weighted_relations.specs.declared.Arc.{Arc}
use Rattle.weighted_relations.specs.Machines.{Machine}
use Rattle.state_table.specs.Numbers.{Numbers}
use Rattle.acceptor_ops.specs.Tables.{Table}
use Rattle.acceptor_ops.specs.Beside.{IsPair, Paired, moved}
use Rattle.acceptor_ops.proofs.Besides.{paired_more}
use Rattle.acceptor_ops.proofs.products.beside.Goals as goal

pub loop-arc-preserved : goal.loop-arc-preserved
loop-arc-preserved c =
    let m : Machine = c.args.a.now in
    let t : Table = c.args.d.now in
    let row = c.arcs_of-arc-items.result.now in
    let n = c.loop-arc.arc-index in
    let none : Arc = record { input = 0; output = 0; weight = 0; next = 0 } in
    let a : Arc = get_or row n none in
    let there : slice_get row n ≡ Some a = slice_get-get_or row n none c.loop-arc-test.true in
    let fits = c.arcs_of-arc-items.ensures.sound.arcs c.args.first n a (subst (λ v. slice_get v n ≡ Some a) c.arcs_of-arc-items.ensures.value there) in
    let after : c.after-q.result ≡ moved t c.args.second a.input = c.after-q.ensures.value in
    let pair : IsPair m t (a.next, moved t c.args.second a.input) = record { first = fits.next; second = subst (λ q. q < length t.next) after c.after-q.ensures.within } in
    let add : Numbers c.loop-arc.pairs c.number.new.self (a.next, moved t c.args.second a.input) c.in_ok-next.next = subst (λ q. Numbers c.loop-arc.pairs c.number.new.self (a.next, q) c.in_ok-next.next) after c.in_ok-next.ensures.number in
    subst (Paired m t c.args.pairs.now c.number.new.self c.args.second (n + 1) row) (sym c.in_ok-push.ensures.items)
    (paired_more m t c.args.pairs.now c.loop-arc.pairs c.number.new.self c.args.second n row c.loop-arc.row.items a _ c.in_ok-next.next c.loop-arc.invariant there pair add refl)
