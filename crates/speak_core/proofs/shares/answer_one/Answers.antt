use Rattle.std.proofs.Common.{◌∙◌, ◌∷◌, [], ap, map}
use Rattle.std.proofs.lemmas.List.{map-append}
use Rattle.speak_core.specs.Parts.{tally_of}
use Rattle.speak_core.proofs.Logging.{grows_part}
use Rattle.speak_core.proofs.shares.answer_one.Goals as goal

pub returns-clause-log : goal.returns-clause-log
returns-clause-log g c = (
  tally_of c.in_ok-answer.field-0 ∷ [],
  ap (map tally_of) c.in_ok-push_back.ensures.items ∙ map-append tally_of c.args.heard.now.items (c.in_ok-answer.field-0 ∷ []),
  grows_part c.args.speaker.now.normaliser c.args.line.now c.args.share.now.caller c.answer-answer.new.caller (tally_of c.in_ok-answer.field-0) c.in_ok-answer.ensures.part,
)
