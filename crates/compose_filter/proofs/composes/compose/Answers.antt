use Rattle.std.proofs.Common.{◌≡◌, ◌≤◌, length, get_or, [], sym, subst, ap, ◌∙◌, arith}
use Rattle.std.specs.List.Sorted.{IsNonDecreasingBy}
use Rattle.weighted_relations.specs.declared.Arc.{Arc}
use Rattle.fst_core.specs.Sorted.{IsReordered}
use Rattle.compose_filter.specs.declared.triples.Triple.{Triple}
use Rattle.compose_filter.specs.Combinations.{combinations}
use Rattle.compose_filter.specs.Compositions.{first_triple, IsComposition}
use Rattle.compose_filter.proofs.Exploring.{SoFar, none_so_far, first_number, more_so_far, sound_of, top_fits, composition_of, row_fits, first_added}
use Rattle.compose_filter.proofs.Numbering.{same_readings}
use Rattle.compose_filter.proofs.composes.compose.Goals as goal

pub loop-sorted-init : goal.loop-sorted-init
loop-sorted-init c =
    let a = c.args.a.now in
    let b = c.args.b.now in
    let add = first_added a b c.new-triples.result c.number.new.self c.in_ok-start.start c.start.result c.start-2.result c.new-triples.ensures.value c.start.ensures.value c.start-2.ensures.value c.in_ok-start.ensures.number in
    subst (SoFar a b c.number.new.self) (sym c.new-built.ensures.value) (none_so_far a b c.number.new.self c.in_ok-start.start c.start.ensures.sound c.start-2.ensures.sound c.number.ensures.distinct add)

pub all_moves-requires-clause-sorted : goal.all_moves-requires-clause-sorted
all_moves-requires-clause-sorted c t = subst (IsNonDecreasingBy (λ (y : Arc). y.input)) (sym c.arcs_of-row.ensures.value) (c.as_fst-sorted.ensures.sorted c.key-t.result.now.qb)

pub all_moves-requires-clause-fits : goal.all_moves-requires-clause-fits
all_moves-requires-clause-fits c =
    let order = subst (IsReordered c.args.b.now) (sym c.as_fst-sorted.ensures.value) c.in_ok-by_input.ensures.reordered in
    row_fits c.args.a.now c.args.b.now c.as_fst-sorted.result.now c.key-t.result.now.qa c.key-t.result.now.qb c.arcs_of.result.now c.arcs_of-row.result.now order c.requires.fits c.arcs_of.ensures.value c.arcs_of-row.ensures.value

pub loop-sorted-preserved : goal.loop-sorted-preserved
loop-sorted-preserved c =
    let a = c.args.a.now in
    let b = c.args.b.now in
    let other = c.as_fst-sorted.result.now in
    let order = subst (IsReordered b) (sym c.as_fst-sorted.ensures.value) c.in_ok-by_input.ensures.reordered in
    let t : Triple = c.key-t.result.now in
    let left = ap (λ r. combinations r t.qa c.arcs_of-row.result.now t.qb t.filter) c.arcs_of.ensures.value in
    let row = ap (λ r. combinations (get_or a.arcs t.qa []) t.qa r t.qb t.filter) c.arcs_of-row.ensures.value in
    let moves = c.deref.ensures.value ∙ (c.in_ok-found.ensures.exact ∙ (left ∙ row)) in
    let more = more_so_far a b other c.loop-sorted.triples c.numbered.new.triples c.loop-sorted.built c.len-in-loop-sorted-2.result t c.deref.result.now c.in_ok-row.row.items c.end.result c.start.ensures.sound c.start-2.ensures.sound order c.loop-sorted.invariant c.len-in-loop-sorted-2.ensures.count c.key-t.ensures.value moves c.in_ok-row.ensures.made c.end.ensures.value in
    subst (SoFar a b c.numbered.new.triples) (sym c.in_ok-push.ensures.value) more

pub finish-requires : goal.finish-requires
finish-requires c =
    let a = c.args.a.now in
    let b = c.args.b.now in
    let keys = c.loop-sorted.triples in
    let done : length keys ≤ length c.loop-sorted.built.arcs = omega arith in
    let zero : c.in_ok-start.start ≡ 0 = first_number c.number.new.self (first_triple a b) c.in_ok-start.start c.number.ensures.distinct (first_added a b c.new-triples.result c.number.new.self c.in_ok-start.start c.start.result c.start-2.result c.new-triples.ensures.value c.start.ensures.value c.start-2.ensures.value c.in_ok-start.ensures.number) in
    record { sound = sound_of a b keys c.loop-sorted.built c.start.ensures.sound c.start-2.ensures.sound c.loop-sorted.invariant done c.in_ok-start.start zero c.requires.fits }

pub returns-clause-one_to_one : goal.returns-clause-one_to_one
returns-clause-one_to_one c =
    let a = c.args.a.now in
    let b = c.args.b.now in
    let keys = c.loop-sorted.triples in
    let done : length keys ≤ length c.loop-sorted.built.arcs = omega arith in
    let zero : c.in_ok-start.start ≡ 0 = first_number c.number.new.self (first_triple a b) c.in_ok-start.start c.number.ensures.distinct (first_added a b c.new-triples.result c.number.new.self c.in_ok-start.start c.start.result c.start-2.result c.new-triples.ensures.value c.start.ensures.value c.start-2.ensures.value c.in_ok-start.ensures.number) in
    subst (IsComposition a b) (sym c.finish.ensures.value) (composition_of a b keys c.loop-sorted.built c.start.ensures.sound c.start-2.ensures.sound c.loop-sorted.invariant done c.in_ok-start.start zero c.len-in-loop-sorted.ensures.distinct)

pub returns-clause-readings : goal.returns-clause-readings
returns-clause-readings c =
    let a = c.args.a.now in
    let b = c.args.b.now in
    let keys = c.loop-sorted.triples in
    let done : length keys ≤ length c.loop-sorted.built.arcs = omega arith in
    let zero : c.in_ok-start.start ≡ 0 = first_number c.number.new.self (first_triple a b) c.in_ok-start.start c.number.ensures.distinct (first_added a b c.new-triples.result c.number.new.self c.in_ok-start.start c.start.result c.start-2.result c.new-triples.ensures.value c.start.ensures.value c.start-2.ensures.value c.in_ok-start.ensures.number) in
    same_readings a b c.finish.result (subst (IsComposition a b) (sym c.finish.ensures.value) (composition_of a b keys c.loop-sorted.built c.start.ensures.sound c.start-2.ensures.sound c.loop-sorted.invariant done c.in_ok-start.start zero c.len-in-loop-sorted.ensures.distinct))

pub returns-clause-top : goal.returns-clause-top
returns-clause-top c =
    let keys = c.loop-sorted.triples in
    let done : length keys ≤ length c.loop-sorted.built.arcs = omega arith in
    top_fits c.args.a.now c.args.b.now keys c.loop-sorted.built c.start.ensures.sound c.start-2.ensures.sound c.loop-sorted.invariant done c.in_ok-start.start c.finish.result c.finish.ensures.value
