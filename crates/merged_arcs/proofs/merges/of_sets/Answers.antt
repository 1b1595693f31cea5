use Rattle.std.proofs.lemmas.Option.{get_or_from_slice_get}
use Rattle.std.proofs.Common.{ℕ, ◌∙◌, ◌≡◌, ◌+◌, ◌++◌, ◌∷◌, ◌<◌, ◌≤◌, List, [], length, get_or, subst, sym, ap, arith}
use Rattle.std.specs.List.{Contains}
use Rattle.std.proofs.lemmas.List.{length_push}
use Rattle.fst_core.specs.States.{States}
use Rattle.weighted_relations.specs.declared.Arc.{Arc}
use Rattle.weighted_relations.specs.Relations.{Same}
use Rattle.weighted_relations.specs.Machines.{Machine, Reads}
use Rattle.merged_arcs.specs.Merged.{IsArcOf, IsMerged, EndOf, TwoEnds, RowMade, StandTogether}
use Rattle.state_table.specs.Numbers.{Numbers}
use Rattle.merged_arcs.proofs.Reaching.{ends_differ}
use Rattle.merged_arcs.proofs.Runs.{made_same}
use Rattle.merged_arcs.proofs.Building.{Building, building_none, building_more, built_sound, built_reads, built_merged}
use Rattle.merged_arcs.proofs.merges.of_sets.Goals as goal

pub end_of-requires : goal.end_of-requires
end_of-requires c =
    let l : c.len-in-loop-alloc-3.result < length c.loop-alloc.sets = omega arith in
    let at : c.states-set.result.now ≡ get_or c.loop-alloc.sets c.len-in-loop-alloc-3.result [] = c.states-set.ensures.value ∙ sym {A = List ℕ} (get_or_from_slice_get c.loop-alloc.sets c.len-in-loop-alloc-3.result c.key.result.now [] c.key.ensures.value) in
    record { within = λ s h. c.loop-alloc.invariant.built.states c.len-in-loop-alloc-3.result l s (subst (λ v. Contains v s) at h) }

pub gathered-requires : goal.gathered-requires
gathered-requires c =
    let l : c.len-in-loop-alloc-3.result < length c.loop-alloc.sets = omega arith in
    let at : c.states-set.result.now ≡ get_or c.loop-alloc.sets c.len-in-loop-alloc-3.result [] = c.states-set.ensures.value ∙ sym {A = List ℕ} (get_or_from_slice_get c.loop-alloc.sets c.len-in-loop-alloc-3.result c.key.result.now [] c.key.ensures.value) in
    record { within = λ s h. c.loop-alloc.invariant.built.states c.len-in-loop-alloc-3.result l s (subst (λ v. Contains v s) at h) }

pub loop-alloc-preserved : goal.loop-alloc-preserved
loop-alloc-preserved c =
    let a : Machine = c.args.a.now in
    let n = c.len-in-loop-alloc-3.result in
    let sets = c.loop-alloc.sets in
    let new = c.merged_row.new.sets in
    let row = c.in_ok-row.row.items in
    let l : n < length sets = omega arith in
    let at : c.states-set.result.now ≡ get_or c.loop-alloc.sets c.len-in-loop-alloc-3.result [] = c.states-set.ensures.value ∙ sym {A = List ℕ} (get_or_from_slice_get c.loop-alloc.sets c.len-in-loop-alloc-3.result c.key.result.now [] c.key.ensures.value) in
    let end : EndOf a (get_or sets n []) c.in-Some.last = subst (λ v. EndOf a v c.in-Some.last) at c.in-Some.ensures.common in
    let gathered : RowMade (Contains c.in_ok-arcs.arcs.items) sets new row = subst (λ (v : List Arc). RowMade (Contains v) sets new row) c.deref.ensures.value c.in_ok-row.ensures.made in
    let of_set : RowMade (IsArcOf a c.states-set.result.now) sets new row = made_same (Contains c.in_ok-arcs.arcs.items) (IsArcOf a c.states-set.result.now) sets new row c.in_ok-arcs.ensures.all gathered in
    let made : RowMade (IsArcOf a (get_or sets n [])) sets new row = subst (λ v. RowMade (IsArcOf a v) sets new row) at of_set in
    let count : length (c.loop-alloc.built.arcs ++ row ∷ []) ≡ length c.loop-alloc.built.arcs + 1 = length_push c.loop-alloc.built.arcs row in
    let pushed : length c.push.new.self.arcs ≡ length (c.loop-alloc.built.arcs ++ row ∷ []) = ap (λ (b : States). length b.arcs) c.in_ok-push.ensures.value in
    record {
      built =
          subst (Building a c.in_ok-start.start new) (sym c.in_ok-push.ensures.value)
          (building_more a c.in_ok-start.start sets new c.loop-alloc.built n row c.in-Some.last c.start.ensures.sound c.loop-alloc.invariant.built c.len-in-loop-alloc-3.ensures.count l end made c.in_ok-row.ensures.apart);
      few = omega arith;
    }

pub merged_row-requires : goal.merged_row-requires
merged_row-requires c = record { together = subst StandTogether (sym c.deref.ensures.value) c.in_ok-arcs.ensures.together }

pub finish-requires : goal.finish-requires
finish-requires c =
    let done : length c.loop-alloc.sets ≤ length c.loop-alloc.built.arcs = omega arith in
    record { sound = built_sound c.args.a.now c.in_ok-start.start c.loop-alloc.sets c.loop-alloc.built c.start.ensures.sound c.loop-alloc.invariant.built done }

pub loop-alloc-init : goal.loop-alloc-init
loop-alloc-init c =
    let a : Machine = c.args.a.now in
    let set : c.new.result ≡ a.start ∷ [] = c.new.ensures.value ∙ c.in_ok-from_slice.ensures.items ∙ ap (λ n. n ∷ []) c.start.ensures.value in
    let add : Numbers c.new-sets.result c.number.new.self (a.start ∷ []) c.in_ok-start.start = subst (λ v. Numbers c.new-sets.result c.number.new.self v c.in_ok-start.start) set c.in_ok-start.ensures.number in
    record {
      built = building_none a c.in_ok-start.start c.new-sets.result c.number.new.self c.new-built.result c.start.ensures.sound c.new-sets.ensures.value add c.new-built.ensures.value;
      few = let e : length c.new-built.result.arcs ≡ 0 = ap (λ (b : States). length b.arcs) c.new-built.ensures.value in omega arith;
    }

pub returns-in-None-clause-split : goal.returns-in-None-clause-split
returns-in-None-clause-split c = λ e.
    let a : Machine = c.args.a.now in
    let l : c.len-in-loop-alloc-3.result < length c.loop-alloc.sets = omega arith in
    let at : c.states-set.result.now ≡ get_or c.loop-alloc.sets c.len-in-loop-alloc-3.result [] = c.states-set.ensures.value ∙ sym {A = List ℕ} (get_or_from_slice_get c.loop-alloc.sets c.len-in-loop-alloc-3.result c.key.result.now [] c.key.ensures.value) in
    ends_differ a (get_or c.loop-alloc.sets c.len-in-loop-alloc-3.result []) (c.loop-alloc.invariant.built.reached c.len-in-loop-alloc-3.result l) (subst (λ v. TwoEnds a (Contains v)) at c.in-None.ensures.differ)

pub returns-clause-readings : goal.returns-clause-readings
returns-clause-readings c = λ m e.
    let done : length c.loop-alloc.sets ≤ length c.loop-alloc.built.arcs = omega arith in
    let same : c.finish.result ≡ m = cc in
    subst (λ v. Same (Reads v) (Reads c.args.a.now)) (sym c.finish.ensures.value ∙ same) (built_reads c.args.a.now c.in_ok-start.start c.loop-alloc.sets c.loop-alloc.built c.start.ensures.sound c.loop-alloc.invariant.built done)

pub returns-clause-merged : goal.returns-clause-merged
returns-clause-merged c = λ m e.
    let done : length c.loop-alloc.sets ≤ length c.loop-alloc.built.arcs = omega arith in
    let same : c.finish.result ≡ m = cc in
    subst IsMerged (sym c.finish.ensures.value ∙ same) (built_merged c.args.a.now c.in_ok-start.start c.loop-alloc.sets c.loop-alloc.built c.start.ensures.sound c.loop-alloc.invariant.built done)
