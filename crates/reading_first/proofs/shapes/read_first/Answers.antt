use Rattle.std.proofs.Common.{◌≡◌, ◌≤◌, ◌++◌, ◌∷◌, [], length, sym, subst, ap, arith}
use Rattle.std.specs.Prelude.{IfSome}
use Rattle.fst_core.specs.States.{States}
use Rattle.weighted_relations.specs.Relations.{Same}
use Rattle.weighted_relations.specs.Machines.{Machine, Reads}
use Rattle.reading_first.specs.ReadsFirst.{ReadsFirst}
use Rattle.reading_first.specs.Shapes.{RowMade}
use Rattle.reading_first.proofs.Building.{SoFar, more_so_far, shaped_sound, shaped_first, shaped_reads}
use Rattle.reading_first.proofs.shapes.read_first.Goals as goal

pub loop-alloc-preserved : goal.loop-alloc-preserved
loop-alloc-preserved c =
    let m : Machine = c.args.a.now in
    let old = c.loop-alloc.parts in
    let new = c.row_of.new.parts in
    let b = c.loop-alloc.built in
    let n = c.len-in-loop-alloc-2.result in
    let row = c.in-Some.row in
    let made : RowMade m old new c.key-part.result.now row.arcs.items row.last = subst (λ found. IfSome found (λ r. RowMade m old new c.key-part.result.now r.arcs.items r.last)) c.in-Some.is c.in_ok-row.ensures.row in
    let more = more_so_far m c.in_ok-start.start old new b n c.key-part.result.now row.arcs.items row.last c.loop-alloc.invariant.built c.len-in-loop-alloc-2.ensures.count c.key-part.ensures.value made in
    let count : length (b.arcs ++ row.arcs.items ∷ []) ≤ length new = more.count in
    let pushed : length c.push.new.self.arcs ≡ length (b.arcs ++ row.arcs.items ∷ []) = ap (λ (b : States). length b.arcs) c.in_ok-push.ensures.value in
    record {
      built = subst (SoFar m c.in_ok-start.start new) (sym c.in_ok-push.ensures.value) more;
      few = omega arith;
    }

pub finish-requires : goal.finish-requires
finish-requires c =
    let done : length c.loop-alloc.parts ≤ length c.loop-alloc.built.arcs = omega arith in
    record { sound = shaped_sound c.args.a.now c.in_ok-start.start c.loop-alloc.parts c.loop-alloc.built c.loop-alloc.invariant.built done }

pub returns-clause-readings : goal.returns-clause-readings
returns-clause-readings c =
    let done : length c.loop-alloc.parts ≤ length c.loop-alloc.built.arcs = omega arith in
    subst (λ m. Same (Reads m) (Reads c.args.a.now)) (sym c.finish.ensures.value) (shaped_reads c.args.a.now c.in_ok-start.start c.loop-alloc.parts c.loop-alloc.built c.loop-alloc.invariant.built done)

pub returns-clause-shape : goal.returns-clause-shape
returns-clause-shape c =
    let done : length c.loop-alloc.parts ≤ length c.loop-alloc.built.arcs = omega arith in
    subst ReadsFirst (sym c.finish.ensures.value) (shaped_first c.args.a.now c.in_ok-start.start c.loop-alloc.parts c.loop-alloc.built c.loop-alloc.invariant.built done)
