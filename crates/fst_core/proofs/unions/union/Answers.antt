use Rattle.std.proofs.Common.{◌≡◌, ◌+◌, ◌<◌, ◌∷◌, ◌++◌, [], List, length, take, arith, subst, sym, refl}
use Rattle.std.proofs.lemmas.List.{take_more, take_all}
use Rattle.std.specs.Prelude.{sum_by}
use Rattle.weighted_relations.specs.Machines.{Machine}
use Rattle.fst_core.specs.Placed.{empty_arc}
use Rattle.fst_core.specs.Top.{top_of, Under}
use Rattle.fst_core.proofs.Branches.{Branches, branches_none, branches_more, branches_sound, branches_reads}
use Rattle.fst_core.proofs.Tops.{none_under, branch_under, branches_top}
use Rattle.fst_core.proofs.unions.union.Goals as goal

pub loop-p-init : goal.loop-p-init
loop-p-init c = record { branches = branches_none _ _ c.new-built.ensures.value c.new-row.ensures.items; under = none_under 0 _ c.new-built.ensures.value }

pub loop-p-preserved : goal.loop-p-preserved
loop-p-preserved c =
    let p : Machine = c.p-item.result in
    let within : c.loop-p.p-index < length c.args.parts.now = omega arith in
    let parts : take (c.loop-p.p-index + 1) c.args.parts.now ≡ take c.loop-p.p-index c.args.parts.now ++ p ∷ [] = rw (take_more c.args.parts.now c.loop-p.p-index p within, ← c.p-item.is) refl in
    let row : c.push.new.self.items ≡ c.loop-p.row.items ++ empty_arc 0 (length c.loop-p.built.arcs + p.start) ∷ [] = cc (c.in_ok-push.ensures.items, c.empty.ensures, c.len.ensures.count, c.start.ensures.value) in
    record {
      branches = subst (λ (v : List Machine). Branches v c.place.new.self c.push.new.self.items) (sym parts) (subst (Branches (take c.loop-p.p-index c.args.parts.now ++ p ∷ []) c.place.new.self) (sym row) (branches_more (take c.loop-p.p-index c.args.parts.now) c.loop-p.built c.place.new.self c.loop-p.row.items p c.start.ensures.sound c.loop-p.invariant.branches c.in_ok-place.ensures));
      under = branch_under c.args.parts.now c.loop-p.p-index p c.loop-p.built c.place.new.self within c.p-item.is c.loop-p.invariant.under c.in_ok-place.ensures;
    }

pub finish-requires : goal.finish-requires
finish-requires c = record { sound = branches_sound _ c.loop-p.built c.push-2.new.self c.loop-p.row.items c.len-hub.result c.loop-p.invariant.branches c.len-hub.ensures.count c.in_ok-push-2.ensures.value }

pub returns-clause-readings : goal.returns-clause-readings
returns-clause-readings c =
    let all : Branches c.args.parts.now c.loop-p.built c.loop-p.row.items = rw (← take_all c.loop-p.p-index c.args.parts.now (omega arith)) c.loop-p.invariant.branches in
    branches_reads c.args.parts.now c.loop-p.built c.push-2.new.self c.loop-p.row.items c.len-hub.result all c.len-hub.ensures.count c.in_ok-push-2.ensures.value c.finish.result c.finish.ensures.value

pub returns-clause-top : goal.returns-clause-top
returns-clause-top c =
    let all : Under (sum_by top_of c.args.parts.now) c.loop-p.built = rw (← take_all c.loop-p.p-index c.args.parts.now (omega arith)) c.loop-p.invariant.under in
    branches_top _ _ c.len-hub.result c.finish.result c.loop-p.built c.push-2.new.self c.loop-p.row.items c.loop-p.invariant.branches all c.in_ok-push-2.ensures.value c.finish.ensures.value
