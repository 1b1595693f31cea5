use Rattle.core_expressions.specs.Views.{expression_of}
use Rattle.weighted_relations.specs.LiteralLaws.{sound_literals}
use Rattle.normaliser.proofs.loading.build_one.Goals as goal

pub build-requires-clause-weights : goal.build-requires-clause-weights
build-requires-clause-weights c = sound_literals (expression_of c.args.rule.now) c.requires.sound

pub returns-in_ok-part-in-Ok-clause-readings : goal.returns-in_ok-part-in-Ok-clause-readings
returns-in_ok-part-in-Ok-clause-readings c = λ x y w.
    let sorted = c.in_ok-part-in-Ok.ensures x y w in
    let built = c.in-Ok.ensures.readings x y w in
    (λ r. built.0 (sorted.0 r), λ r. sorted.1 (built.1 r))
