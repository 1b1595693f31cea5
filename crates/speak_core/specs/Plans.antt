-- How lines are spoken: a mode with the rules of two cascades.
use Rattle.std.specs.Prelude.{List, ◌++◌}
use Rattle.weighted_relations.specs.Expressions.{Expression, Rel}
use Rattle.weighted_relations.specs.Relations.{Cascade, Relation}
use Rattle.normaliser.specs.Lines.{Classified, Saying}
use Rattle.normaliser.specs.Words.{Words}
use Rattle.speak_setup.specs.Setups.{SetupNames}
use Rattle.speak_core.specs.declared.requests.Mode.{Mode}
use Rattle.speak_core.specs.declared.requests.Mode.TheVariants.{Classify, Speak}

-- what is to be said of each line, with the names of a setup and the classifier's rules and the verbaliser's; where lines are classified alone there are none of the latter
pub record Plan : Type 0 where
  pub mode : Mode
  pub names : SetupNames
  pub classifier : List Expression
  pub verbaliser : List Expression

-- all rules, in the order in which they are built
abbrev pub rules_of : Plan → List Expression
rules_of plan = plan.classifier ++ plan.verbaliser

-- what a line says in a mode, by the relation of the classifier and that of the verbaliser
abbrev pub says_in : Mode → Relation → Relation → Saying
says_in Classify C V = Classified C
says_in Speak C V = Words C V

-- what a line says by a plan
abbrev pub saying_of : Plan → Saying
saying_of plan = says_in plan.mode (Cascade Rel plan.classifier) (Cascade Rel plan.verbaliser)
