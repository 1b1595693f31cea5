use Rattle.std.proofs.Common.{◌≡◌, ◌∙◌, All, List, [], ◌∷◌, ◌++◌, Ok, map, ap, subst, sym}
use Rattle.std.proofs.lemmas.List.{map-append}
use Rattle.std.proofs.lemmas.List.Elements.{All-push}
use Rattle.core_expressions.specs.Views.{expression_of}
use Rattle.normaliser.specs.Loads.{CanBeBuilt}
use Rattle.thrax_link.specs.Exports.{exports_of}
use Rattle.weighted_relations.specs.Expressions.{Expression}
use Rattle.speak_core.proofs.Named.{find_step, find_stop}
use Rattle.speak_core.proofs.rules.rules_of.Goals as goal

pub returns-in-Err-clause-refused : goal.returns-in-Err-clause-refused
returns-in-Err-clause-refused c =
    find_stop c.args.file.now (exports_of c.args.grammar.now) c.args.names.now c.loop-name.name-index c.name-item.result _ c.loop-name-test.true c.name-item.is c.loop-name.invariant.0 c.in-Err.stop c.in-Err.ensures.refused

pub loop-name-preserved : goal.loop-name-preserved
loop-name-preserved c =
    let more : map expression_of c.push.new.self.items ≡ map expression_of c.loop-name.rules.items ++ expression_of c.in-Ok.rule ∷ [] =
    ap (map expression_of) c.in_ok-push-in-Ok.ensures.items ∙ map-append expression_of c.loop-name.rules.items (c.in-Ok.rule ∷ []) in (
      find_step c.args.file.now (exports_of c.args.grammar.now) c.args.names.now c.loop-name.name-index c.name-item.result _ c.loop-name-test.true c.name-item.is c.loop-name.invariant.0 (expression_of c.in-Ok.rule) c.in-Ok.ensures.found ∙ ap (λ (l : List Expression). Ok l) (sym more),
      subst (All CanBeBuilt) (sym more) (All-push CanBeBuilt (map expression_of c.loop-name.rules.items) (expression_of c.in-Ok.rule) c.loop-name.invariant.1 c.in-Ok.ensures.can_be_built),
    )
