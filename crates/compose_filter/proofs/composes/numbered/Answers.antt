use Rattle.std.proofs.Common.{◌+◌, get_or, sym, subst, refl}
use Rattle.weighted_relations.specs.declared.Arc.{Arc}
use Rattle.compose_filter.specs.declared.filters.Filter.TheVariants.{Open}
use Rattle.compose_filter.specs.declared.filters.Taken.TheVariants.{Both}
use Rattle.compose_filter.specs.declared.filters.Move.{Move}
use Rattle.compose_filter.specs.Numbered.{RowMade}
use Rattle.compose_filter.proofs.Exploring.{made_none, made_more}
use Rattle.compose_filter.proofs.composes.numbered.Goals as goal

pub loop-m-init : goal.loop-m-init
loop-m-init c = subst (RowMade c.args.triples.now c.args.triples.now c.args.found.now 0) (sym c.new-row.ensures.items) (made_none c.args.triples.now c.args.found.now)

pub loop-m-preserved : goal.loop-m-preserved
loop-m-preserved c =
    let old = c.args.triples.now in
    let found = c.args.found.now in
    let n = c.loop-m.m-index in
    let none : Move = record { input = 0; output = 0; weight = 0; qa = 0; qb = 0; filter = Open; taken = Both } in
    let m : Move = get_or found n none in
    let x : Arc = record { input = m.input; output = m.output; weight = m.weight; next = c.in_ok-next.next } in
    let made = made_more old c.loop-m.triples c.number.new.self found n none c.loop-m.row.items x c.loop-m.invariant c.loop-m-test.true c.number.ensures.distinct c.in_ok-next.ensures.number refl refl refl in
    subst (RowMade old c.number.new.self found (n + 1)) (sym c.in_ok-push.ensures.items) made
