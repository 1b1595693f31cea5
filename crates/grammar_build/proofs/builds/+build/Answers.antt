use Rattle.std.proofs.Common.{sym, subst, arith, take, map, length, ◌+◌, ◌<◌, ◌≤◌}
use Rattle.std.specs.List.{sum_by}
use Rattle.std.specs.Prelude.{IfSome}
use Rattle.std.proofs.lemmas.Result.{err_from_is_err_and, IfOk-weaker}
use Rattle.fst_core.specs.Top.{top_of}
use Rattle.fst_core.specs.Sides.{Projected}
use Rattle.weighted_relations.specs.Machines.{Reads}
use Rattle.weighted_relations.specs.Relations.{Same}
use Rattle.weighted_relations.specs.ExpressionLaws.{Alike}
use Rattle.core_expressions.specs.Views.{expression_of}
use Rattle.weighted_relations.specs.Rewriting.{Rewritten}
use Rattle.rewrite_rules.specs.Manners.{manner_of}
use Rattle.grammar_build.proofs.Readings.{text_reads, weighted_reads, union_reads, concat_reads, star_reads, cross_reads, inputs_accept, outputs_accept, invert_reads, project_reads, minus_reads, compose_reads, rewrite_reads, left_accepts, right_accepts, sigma_accepts, tau_is_unmarked, sigma_is_unmarked, tau_empty}
use Rattle.weighted_relations.specs.Expressions.{Rel, RelAny, members, literals}
use Rattle.grammar_build.specs.Parts.{IsEntryOf}
use Rattle.grammar_build.proofs.Members.{parted_entry, parted_other, united_all}
use Rattle.grammar_build.proofs.Parts.{alike_more, tops_more, tops_all, part_kinds, part_literals, part_depth, part_cause, none_more, none_all}
use Rattle.grammar_build.proofs.builds.+build.Goals as goal

pub build-cross-requires-clause-inputs : goal.build-cross-requires-clause-inputs
build-cross-requires-clause-inputs t c = inputs_accept _ c.in-Cross.a c.in-Cross.b c.deref-in-Cross.result.now c.deref-in-Cross-2.result.now c.in_ok-inputs-in-Cross.inputs c.in-Cross.is c.deref-in-Cross.ensures c.deref-in-Cross-2.ensures c.requires.kinds c.in_ok-inputs-in-Cross.ensures.readings

pub build-cross-requires-clause-outputs : goal.build-cross-requires-clause-outputs
build-cross-requires-clause-outputs t c = outputs_accept _ c.in-Cross.a c.in-Cross.b c.deref-in-Cross.result.now c.deref-in-Cross-2.result.now c.in_ok-outputs-in-Cross.outputs c.in-Cross.is c.deref-in-Cross.ensures c.deref-in-Cross-2.ensures c.requires.kinds c.in_ok-outputs-in-Cross.ensures.readings

pub build-returns-in_ok-text-in-Text-clause-readings : goal.build-returns-in_ok-text-in-Text-clause-readings
build-returns-in_ok-text-in-Text-clause-readings t c = text_reads c.args.e.now c.in-Text.labels c.deref.result.now c.in_ok-text-in-Text.field-0 c.in-Text.is c.deref.ensures.value c.in_ok-text-in-Text.ensures.readings

pub build-returns-in_ok-weighted-in-Weighted-clause-readings : goal.build-returns-in_ok-weighted-in-Weighted-clause-readings
build-returns-in_ok-weighted-in-Weighted-clause-readings t c = weighted_reads c.args.e.now c.in-Weighted.part c.in-Weighted.weight c.deref-in-Weighted.result.now c.in_ok-build-in-Weighted.field-0 c.in_ok-weighted-in-Weighted.field-0 c.in-Weighted.is c.deref-in-Weighted.ensures c.in_ok-build-in-Weighted.ensures.readings c.in_ok-weighted-in-Weighted.ensures.readings

pub build-returns-in_ok-concat-in-Concat-clause-readings : goal.build-returns-in_ok-concat-in-Concat-clause-readings
build-returns-in_ok-concat-in-Concat-clause-readings t c = concat_reads c.args.e.now c.in-Concat.parts c.deref-in-Concat.result.now c.in_ok-build_each-in-Concat.field-0.items c.deref-in-Concat-2.result.now c.in_ok-concat-in-Concat.field-0 c.in-Concat.is c.deref-in-Concat.ensures.value c.deref-in-Concat-2.ensures.value c.in_ok-build_each-in-Concat.ensures.readings c.in_ok-concat-in-Concat.ensures.readings

pub build-returns-in_ok-star-in-Star-clause-readings : goal.build-returns-in_ok-star-in-Star-clause-readings
build-returns-in_ok-star-in-Star-clause-readings t c = star_reads c.args.e.now c.in-Star.part c.deref-in-Star.result.now c.in_ok-build-in-Star.field-0 c.in_ok-star-in-Star.field-0 c.in-Star.is c.deref-in-Star.ensures c.in_ok-build-in-Star.ensures.readings c.in_ok-star-in-Star.ensures.readings

pub build-returns-in_ok-cross-in-Cross-clause-readings : goal.build-returns-in_ok-cross-in-Cross-clause-readings
build-returns-in_ok-cross-in-Cross-clause-readings t c = cross_reads c.args.e.now c.in-Cross.a c.in-Cross.b c.deref-in-Cross.result.now c.deref-in-Cross-2.result.now c.in_ok-inputs-in-Cross.inputs c.in_ok-outputs-in-Cross.outputs c.in_ok-cross-in-Cross.field-0 c.in-Cross.is c.deref-in-Cross.ensures c.deref-in-Cross-2.ensures c.in_ok-inputs-in-Cross.ensures.readings c.in_ok-outputs-in-Cross.ensures.readings c.in_ok-cross-in-Cross.ensures.readings

pub build-returns-in_ok-invert-in-Invert-clause-readings : goal.build-returns-in_ok-invert-in-Invert-clause-readings
build-returns-in_ok-invert-in-Invert-clause-readings t c = invert_reads c.args.e.now c.in-Invert.part c.deref-in-Invert.result.now c.in_ok-build-in-Invert.field-0 c.in_ok-invert-in-Invert.field-0 c.in-Invert.is c.deref-in-Invert.ensures c.in_ok-build-in-Invert.ensures.readings c.in_ok-invert-in-Invert.ensures.readings

pub build-returns-in_ok-project-in-Project-clause-readings : goal.build-returns-in_ok-project-in-Project-clause-readings
build-returns-in_ok-project-in-Project-clause-readings t c = project_reads c.args.e.now c.in-Project.part c.in-Project.side c.deref-in-Project.result.now c.in_ok-build-in-Project.field-0 c.in_ok-project-in-Project.field-0 c.in-Project.is c.deref-in-Project.ensures c.in_ok-build-in-Project.ensures.readings (subst (λ v. Same (Reads c.in_ok-project-in-Project.field-0) (Projected v (Reads c.in_ok-build-in-Project.field-0))) c.side_of.ensures c.in_ok-project-in-Project.ensures.readings)

pub build_each-build-requires : goal.build_each-build-requires
build_each-build-requires t c =
    let within : c.loop-part.part-index < length c.args.parts.now = omega arith in
    let deep = part_depth c.args.parts.now c.loop-part.part-index c.part-item.result within c.part-item.is in
    (omega (arith, deep, c.decreases), (part_kinds c.args.parts.now c.loop-part.part-index c.part-item.result within c.part-item.is c.requires.kinds, part_literals c.args.parts.now c.loop-part.part-index c.part-item.result within c.part-item.is c.requires.weights))

pub build_each-loop-part-preserved : goal.build_each-loop-part-preserved
build_each-loop-part-preserved t c = record {
  readings = subst (λ v. Alike v (map expression_of (take (c.loop-part.part-index + 1) c.args.parts.now))) (sym c.in_ok-push.ensures.items)
      (alike_more c.loop-part.all.items c.in_ok-build.field-0 c.args.parts.now c.loop-part.part-index c.part-item.result (omega arith) c.part-item.is c.in_ok-build.ensures.readings c.loop-part.invariant.readings);
  top = subst (λ v. sum_by top_of v ≤ sum_by (λ e. literals (expression_of e)) (take (c.loop-part.part-index + 1) c.args.parts.now)) (sym c.in_ok-push.ensures.items)
      (tops_more c.loop-part.all.items c.in_ok-build.field-0 c.args.parts.now c.loop-part.part-index c.part-item.result (omega arith) c.part-item.is c.in_ok-build.ensures.top c.loop-part.invariant.top);
  complete = none_more c.args.parts.now c.loop-part.part-index c.part-item.result (omega arith) c.part-item.is c.loop-part.invariant.complete c.in_ok-build.ensures.complete;
}

pub build_each-returns-clause-top : goal.build_each-returns-clause-top
build_each-returns-clause-top t c = tops_all c.loop-part.all.items c.args.parts.now c.loop-part.part-index (omega arith) c.loop-part.invariant.top

pub build_each-returns-clause-complete : goal.build_each-returns-clause-complete
build_each-returns-clause-complete t c = none_all c.args.parts.now c.loop-part.part-index (omega arith) c.loop-part.invariant.complete

pub build_each-returns-in_err-build-clause-refused : goal.build_each-returns-in_err-build-clause-refused
build_each-returns-in_err-build-clause-refused t c =
    let p = err_from_is_err_and c.from_residual.result c.from_residual.ensures.1 in
    rw (p.1, p.2) (part_cause c.in_err-build.field-0.0 c.args.parts.now c.loop-part.part-index c.part-item.result (omega arith) c.part-item.is c.in_err-build.ensures.refused)

pub build-returns-in_ok-minus-in-Minus-clause-readings : goal.build-returns-in_ok-minus-in-Minus-clause-readings
build-returns-in_ok-minus-in-Minus-clause-readings t c = minus_reads c.args.e.now c.in-Minus.a c.in-Minus.b c.deref-in-Minus.result.now c.deref-in-Minus-2.result.now c.in_ok-all-in-Minus.all c.in_ok-others-in-Minus.others c.in_ok-minus-in-Minus.field-0 c.in_ok-determinise-in-Minus.field-0 c.in-Minus.is c.deref-in-Minus.ensures c.deref-in-Minus-2.ensures c.requires.kinds c.in_ok-all-in-Minus.ensures.readings c.in_ok-others-in-Minus.ensures.readings c.in_ok-determinise-in-Minus.ensures.strings c.in_ok-minus-in-Minus.ensures.readings

pub build-returns-in_ok-composed-in-Compose-clause-readings : goal.build-returns-in_ok-composed-in-Compose-clause-readings
build-returns-in_ok-composed-in-Compose-clause-readings t c = compose_reads c.args.e.now c.in-Compose.a c.in-Compose.b c.deref-in-Compose.result.now c.deref-in-Compose-2.result.now c.in_ok-first-in-Compose.first c.in_ok-second-in-Compose.second c.in_ok-composed-in-Compose.field-0 c.in-Compose.is c.deref-in-Compose.ensures c.deref-in-Compose-2.ensures c.in_ok-first-in-Compose.ensures.readings c.in_ok-second-in-Compose.ensures.readings c.in_ok-composed-in-Compose.ensures.readings

pub build_rewrite-rewrite-requires-clause-left : goal.build_rewrite-rewrite-requires-clause-left
build_rewrite-rewrite-requires-clause-left t c = left_accepts c.args.r.now c.requires.kinds c.in_ok-left.left c.in_ok-left.ensures.readings

pub build_rewrite-rewrite-requires-clause-right : goal.build_rewrite-rewrite-requires-clause-right
build_rewrite-rewrite-requires-clause-right t c = right_accepts c.args.r.now c.requires.kinds c.in_ok-right.right c.in_ok-right.ensures.readings

pub build_rewrite-rewrite-requires-clause-sigma : goal.build_rewrite-rewrite-requires-clause-sigma
build_rewrite-rewrite-requires-clause-sigma t c = sigma_accepts c.args.r.now c.requires.kinds c.in_ok-sigma.sigma c.in_ok-sigma.ensures.readings

pub build_rewrite-rewrite-requires-clause-sigma_unmarked : goal.build_rewrite-rewrite-requires-clause-sigma_unmarked
build_rewrite-rewrite-requires-clause-sigma_unmarked t c = sigma_is_unmarked c.args.r.now c.requires.kinds c.in_ok-sigma.sigma c.in_ok-sigma.ensures.readings

pub build_rewrite-rewrite-requires-clause-tau_unmarked : goal.build_rewrite-rewrite-requires-clause-tau_unmarked
build_rewrite-rewrite-requires-clause-tau_unmarked t c = tau_is_unmarked c.args.r.now c.requires.kinds c.in_ok-tau.tau c.in_ok-tau.ensures.readings

pub build_rewrite-returns-then-branch-clause-refused : goal.build_rewrite-returns-then-branch-clause-refused
build_rewrite-returns-then-branch-clause-refused t c = tau_empty c.args.r.now c.in_ok-tau.tau c.in_ok-tau.ensures.readings (c.in_ok-reads_empty.ensures.answer.0 c.if-branch.true)

pub build_rewrite-returns-clause-readings : goal.build_rewrite-returns-clause-readings
build_rewrite-returns-clause-readings t c = rewrite_reads c.args.r.now c.in_ok-tau.tau c.in_ok-left.left c.in_ok-right.right c.in_ok-sigma.sigma c.in_ok-rewrite.field-0 c.in_ok-tau.ensures.readings c.in_ok-left.ensures.readings c.in_ok-right.ensures.readings c.in_ok-sigma.ensures.readings (subst (λ v. Same (Reads c.in_ok-rewrite.field-0) (Rewritten (Reads c.in_ok-tau.tau) (Reads c.in_ok-left.left) (Reads c.in_ok-right.right) (Reads c.in_ok-sigma.sigma) (manner_of v))) c.mode_of-mode.ensures c.in_ok-rewrite.ensures.readings)

pub build-returns-in-Union-clause-readings : goal.build-returns-in-Union-clause-readings
build-returns-in-Union-clause-readings t c = IfOk-weaker c.build_union.result (λ m. Same (Reads m) (RelAny (members (map expression_of c.deref-in-Union.result.now)))) (λ m. Same (Reads m) (Rel (expression_of c.args.e.now))) (λ m h. union_reads c.args.e.now c.in-Union.parts c.deref-in-Union.result.now m c.in-Union.is c.deref-in-Union.ensures.value h) c.build_union.ensures.readings

pub build_union-build_member-requires : goal.build_union-build_member-requires
build_union-build_member-requires t c =
    let within : c.loop-part.part-index < length c.args.parts.now = omega arith in
    let deep = part_depth c.args.parts.now c.loop-part.part-index c.part-item.result within c.part-item.is in
    (omega (arith, deep, c.decreases), (part_kinds c.args.parts.now c.loop-part.part-index c.part-item.result within c.part-item.is c.requires.kinds, part_literals c.args.parts.now c.loop-part.part-index c.part-item.result within c.part-item.is c.requires.weights))

pub build_union-returns-in_err-build_member-clause-refused : goal.build_union-returns-in_err-build_member-clause-refused
build_union-returns-in_err-build_member-clause-refused t c =
    let p = err_from_is_err_and c.from_residual.result c.from_residual.ensures.1 in
    rw (p.1, p.2) (part_cause c.in_err-build_member.field-0.0 c.args.parts.now c.loop-part.part-index c.part-item.result (omega arith) c.part-item.is c.in_err-build_member.ensures.refused)

pub build_union-returns-clause-readings : goal.build_union-returns-clause-readings
build_union-returns-clause-readings t c = united_all c.args.parts.now c.loop-part.part-index c.loop-part.entries.items c.deref.result.now c.loop-part.others.items c.in_ok-m.m (omega arith) c.deref.ensures.value c.loop-part.invariant c.in_ok-m.ensures.readings

pub build_member-returns-in-Some-clause-parted : goal.build_member-returns-in-Some-clause-parted
build_member-returns-in-Some-clause-parted t c = λ es p. parted_entry es (expression_of c.args.part.now) c.args.entries.now.items c.push.new.self.items c.args.others.now.items c.in-Some.entry c.in_ok-push.ensures.items (subst (λ o. IfSome o (λ z. IsEntryOf z (expression_of c.args.part.now))) c.in-Some.is c.in_ok-entry.ensures) p

pub build_member-returns-clause-parted : goal.build_member-returns-clause-parted
build_member-returns-clause-parted t c = λ es p. parted_other es (expression_of c.args.part.now) c.args.entries.now.items c.args.others.now.items c.push-2.new.self.items c.in_ok-other.other c.in_ok-push-2.ensures.items c.in_ok-other.ensures.readings c.in_ok-other.ensures.top c.in_ok-other.ensures.complete p
