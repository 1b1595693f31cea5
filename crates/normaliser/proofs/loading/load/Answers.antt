use Rattle.std.proofs.Common.{◌≤◌, List, length, map, subst, sym}
use Rattle.std.proofs.lemmas.List.{length-map}
use Rattle.core_expressions.specs.Views.{expression_of}
use Rattle.core_expressions.specs.declared.expressions.Expr.{Expr as Tree}
use Rattle.state_tuples.specs.Positions.{most_parts}
use Rattle.weighted_relations.specs.Machines.{Reads}
use Rattle.weighted_relations.specs.RelationLaws.{same_trans}
use Rattle.weighted_relations.specs.Relations.{Cascade}
use Rattle.normaliser.proofs.Rules.{few_parts, none_of_both, parts_same, parts_unmarked, same_parts}
use Rattle.normaliser.specs.Loads.{classifier_of, verbaliser_of}
use Rattle.normaliser.proofs.loading.load.Goals as goal

few : (rules : List Tree) → length rules ≤ most_parts → length (map expression_of rules) ≤ most_parts
few rules l = subst (λ n. n ≤ most_parts) (sym (length-map rules expression_of)) l

pub looking_ahead-requires-clause-few : goal.looking_ahead-requires-clause-few
looking_ahead-requires-clause-few c = few_parts c.in_ok-classifying.classifying.items (map expression_of c.args.classifier.now) most_parts c.in_ok-classifying.ensures.built (few c.args.classifier.now c.requires.few)

pub verbalising_cascade-requires : goal.verbalising_cascade-requires
verbalising_cascade-requires c = record { few = few_parts c.in_ok-verbalising.verbalising.items (map expression_of c.args.verbaliser.now) most_parts c.in_ok-verbalising.ensures.built (few c.args.verbaliser.now c.requires.few_words) }

pub over_table-requires-clause-classifier : goal.over_table-requires-clause-classifier
over_table-requires-clause-classifier c =
    parts_unmarked (map expression_of c.args.classifier.now) c.in_ok-classifying.classifying.items (Cascade Reads c.in_ok-classifier.classifier.parts) (same_parts _ c.in_ok-classifier.classifier 0 c.in_ok-classifier.ensures.value) c.in_ok-classifying.ensures.built c.requires.classifier

pub over_table-requires-clause-verbaliser : goal.over_table-requires-clause-verbaliser
over_table-requires-clause-verbaliser c =
    parts_unmarked (map expression_of c.args.verbaliser.now) c.in_ok-verbalising.verbalising.items (Cascade Reads c.in_ok-verbaliser.verbaliser.parts) c.in_ok-verbaliser.ensures.readings c.in_ok-verbalising.ensures.built c.requires.verbaliser

pub returns-clause-classifier : goal.returns-clause-classifier
returns-clause-classifier c =
    let R = classifier_of c.in_ok-loaded.loaded.0 in
    let C = Cascade Reads c.in_ok-classifier.classifier.parts in
    parts_same (map expression_of c.args.classifier.now) c.in_ok-classifying.classifying.items R (same_trans R C _ c.in_ok-loaded.ensures.classifier (same_parts _ c.in_ok-classifier.classifier 0 c.in_ok-classifier.ensures.value)) c.in_ok-classifying.ensures.built

pub returns-clause-verbaliser : goal.returns-clause-verbaliser
returns-clause-verbaliser c =
    let R = verbaliser_of c.in_ok-loaded.loaded.0 in
    let V = Cascade Reads c.in_ok-verbaliser.verbaliser.parts in
    parts_same (map expression_of c.args.verbaliser.now) c.in_ok-verbalising.verbalising.items R (same_trans R V _ c.in_ok-loaded.ensures.verbaliser c.in_ok-verbaliser.ensures.readings) c.in_ok-verbalising.ensures.built

pub returns-clause-complete : goal.returns-clause-complete
returns-clause-complete c = none_of_both (map expression_of c.args.classifier.now) (map expression_of c.args.verbaliser.now) c.in_ok-classifying.ensures.complete c.in_ok-verbalising.ensures.complete
