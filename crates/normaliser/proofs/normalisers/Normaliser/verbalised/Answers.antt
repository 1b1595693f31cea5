use Rattle.std.proofs.lemmas.Result.{IfOk-weaker}
use Rattle.normaliser.specs.Loads.{verbaliser_of}
use Rattle.normaliser.proofs.Sources.{output_at_orders}
use Rattle.normaliser.proofs.normalisers.Normaliser.verbalised.Goals as goal

pub output_of-requires-clause-begins : goal.output_of-requires-clause-begins
output_of-requires-clause-begins c = (1, c.args.self.now.verbalising, c.args.self.now.unmarked.verbaliser)

pub returns-clause-output : goal.returns-clause-output
returns-clause-output c =
    IfOk-weaker c.output_of.result _ _ (output_at_orders (verbaliser_of c.args.self.now) c.in_ok-texts.texts c.args.r.now c.in_ok-texts.ensures.readings) (c.output_of.ensures.output 1 c.args.self.now.verbalising)
