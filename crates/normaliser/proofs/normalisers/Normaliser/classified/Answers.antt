use Rattle.std.proofs.Common.{◌∙◌}
use Rattle.std.proofs.lemmas.Option.{IfSome_then}
use Rattle.std.proofs.lemmas.Result.{IfOk-weaker}
use Rattle.normaliser.specs.Loads.{classifier_of}
use Rattle.normaliser.proofs.Sources.{output_at_line}
use Rattle.normaliser.proofs.Looking.{looked_through}
use Rattle.normaliser.proofs.normalisers.Normaliser.classified.Goals as goal

pub output_of-requires-clause-begins : goal.output_of-requires-clause-begins
output_of-requires-clause-begins c = (0, c.args.self.now.classifying, c.args.self.now.unmarked.classifier)

pub returns-clause-output : goal.returns-clause-output
returns-clause-output c =
    IfOk-weaker c.output_of.result _ _
    (output_at_line (classifier_of c.args.self.now) c.in_ok-source.source c.deref.result.now c.args.line.now c.in_ok-source.ensures.readings (c.deref.ensures.value ∙ c.in_ok-labels.ensures.labels))
    (c.output_of.ensures.output 0 c.args.self.now.classifying)

pub returns-clause-looks : goal.returns-clause-looks
returns-clause-looks c =
    let s = c.args.self.now.shared in
    IfOk-weaker c.output_of.result _ _
    (λ output h. IfSome_then output h (λ _. looked_through s c.args.caller.now c.output_of.new.caller c.in_ok-source.source c.deref.result.now c.args.line.now c.in_ok-source.ensures.readings (c.deref.ensures.value ∙ c.in_ok-labels.ensures.labels)))
    c.output_of.ensures.looks
