use Rattle.std.proofs.Common.{List, length, map, ap, subst, sym}
use Rattle.weighted_relations.specs.Expressions.{Rel}
use Rattle.weighted_relations.specs.Relations.{Cascade, Same}
use Rattle.speak_core.specs.declared.speakers.Speaker.{Speaker}
use Rattle.core_expressions.specs.Views.{expression_of}
use Rattle.core_expressions.specs.declared.expressions.Expr.{Expr}
use Rattle.speak_setup.specs.Setups.{names_of}
use Rattle.normaliser.specs.Loads.{classifier_of, verbaliser_of}
use Rattle.speak_core.specs.Accepted.{all_rules}
use Rattle.speak_core.specs.Loaded.{plan_of}
use Rattle.speak_core.specs.Plans.{rules_of}
use Rattle.speak_core.proofs.Found.{built, rule_within, tells_empty}
use Rattle.speak_core.specs.Crews.{AreSeated}
use Rattle.speak_core.proofs.Batching.{seated_new}
use Rattle.speak_core.proofs.loading.build.Goals as goal

pub returns-in-Ok-clause-builds : goal.returns-in-Ok-clause-builds
returns-in-Ok-clause-builds c =
    built (plan_of c.args.mode (names_of c.args.setup.now) c.args.rules.now) c.loaded.result _ _ (ap (λ (x : Speaker). x.mode) c.loaded.ensures.speaker) (ap (λ (l : List Expr). map expression_of l) c.deref.ensures.value) (ap (λ (l : List Expr). map expression_of l) c.deref-2.ensures.value)
    (subst (λ (x : Speaker). Same (classifier_of x.normaliser) (Cascade Rel (map expression_of c.deref.result.now))) (sym c.loaded.ensures.speaker) c.in-Ok.ensures.classifier) (subst (λ (x : Speaker). Same (verbaliser_of x.normaliser) (Cascade Rel (map expression_of c.deref-2.result.now))) (sym c.loaded.ensures.speaker) c.in-Ok.ensures.verbaliser) c.in-Ok.ensures.complete

pub returns-in-Err-RewritesEmpty-clause-builds : goal.returns-in-Err-RewritesEmpty-clause-builds
returns-in-Err-RewritesEmpty-clause-builds c =
    tells_empty (all_rules (names_of c.args.setup.now)) (rules_of (plan_of c.args.mode (names_of c.args.setup.now) c.args.rules.now)) c.in-Err-RewritesEmpty.rule c.rule_name-name.result.now c.rewrites_empty.result c.refused.result c.refused.ensures c.rewrites_empty.ensures
    (rw (c.in-Err-RewritesEmpty.field-0-is, c.deref.ensures.value, c.deref-2.ensures.value) at c.in-Err-RewritesEmpty.ensures.refused) (rw c.in-Err-RewritesEmpty.field-0-is at c.rule_name-name.ensures)

pub loaded-requires-clause-seated : goal.loaded-requires-clause-seated
loaded-requires-clause-seated c =
    subst (λ n. AreSeated n c.in-Ok.callers.items) c.seats_for-seats.ensures (seated_new c.seats_for-seats.result c.in-Ok.callers.items (rw c.in-Ok.callers-is at c.in-Ok.ensures.all_seats) (rw c.in-Ok.callers-is at c.in-Ok.ensures.numbers))

pub rule_name-name-requires : goal.rule_name-name-requires
rule_name-name-requires c =
    rw c.in-Err-RewritesEmpty.field-0-is
    (rule_within c.args.rules.now.classifier.items c.args.rules.now.verbaliser.items (length (all_rules (names_of c.args.setup.now))) c.in-Err-RewritesEmpty.rule (rw (c.in-Err-RewritesEmpty.field-0-is, c.deref.ensures.value, c.deref-2.ensures.value) at c.in-Err-RewritesEmpty.ensures.refused) c.requires.rules.named)
