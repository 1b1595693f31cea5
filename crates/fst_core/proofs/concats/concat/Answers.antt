use Rattle.std.proofs.Common.{◌≤◌, ◌≡◌, ◌-◌, ◌+◌, ◌<◌, length, drop, arith, subst, sym}
use Rattle.std.proofs.lemmas.List.{drop_all}
use Rattle.weighted_relations.specs.Relations.{Same, AllOf}
use Rattle.weighted_relations.specs.RelationLaws.{all_more}
use Rattle.weighted_relations.specs.Machines.{Reads}
use Rattle.std.specs.Prelude.{sum_by}
use Rattle.fst_core.specs.Top.{top_of}
use Rattle.fst_core.proofs.Tops.{sum_drop}
use Rattle.fst_core.proofs.concats.concat.Goals as goal

pub loop-i-init : goal.loop-i-init
loop-i-init c = record { readings = rw (drop_all (length c.args.parts.now) c.args.parts.now (omega arith)) c.in_ok-all.ensures.readings; top = let q : top_of c.in_ok-all.all ≤ 0 = c.in_ok-all.ensures.top in omega arith }

pub loop-i-preserved : goal.loop-i-preserved
loop-i-preserved c =
    let within : c.loop-i.i - 1 < length c.args.parts.now = omega arith in
    let at : (c.loop-i.i - 1) + 1 ≡ c.loop-i.i = omega arith in
    let had : Same (Reads c.loop-i.all) (AllOf Reads (drop ((c.loop-i.i - 1) + 1) c.args.parts.now)) =
    subst (λ n. Same (Reads c.loop-i.all) (AllOf Reads (drop n c.args.parts.now))) (sym at) c.loop-i.invariant.readings in
    record { readings = all_more Reads c.args.parts.now (c.loop-i.i - 1) c.index-parts-i.result (Reads c.loop-i.all) (Reads c.in_ok-all-2.all) within c.index-parts-i.is had c.in_ok-all-2.ensures.readings; top = sum_drop top_of c.args.parts.now (c.loop-i.i - 1) c.index-parts-i.result within c.index-parts-i.is (top_of c.loop-i.all) (top_of c.in_ok-all-2.all) (subst (λ n. top_of c.loop-i.all ≤ sum_by top_of (drop n c.args.parts.now)) (sym at) c.loop-i.invariant.top) c.in_ok-all-2.ensures.top }

pub returns-clause-readings : goal.returns-clause-readings
returns-clause-readings c =
    let none : c.loop-i.i ≡ 0 = omega arith in
    subst (λ n. Same (Reads c.loop-i.all) (AllOf Reads (drop n c.args.parts.now))) none c.loop-i.invariant.readings

pub returns-clause-top : goal.returns-clause-top
returns-clause-top c =
    let none : c.loop-i.i ≡ 0 = omega arith in
    subst (λ n. top_of c.loop-i.all ≤ sum_by top_of (drop n c.args.parts.now)) none c.loop-i.invariant.top
