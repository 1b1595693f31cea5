use Rattle.thrax_link.specs.Exports.{exports_of}
use Rattle.speak_core.proofs.Found.{refusal_finds, grammar_finds}
use Rattle.speak_core.proofs.loading.find_grammar.Goals as goal

pub returns-in-Ok-clause-finds : goal.returns-in-Ok-clause-finds
returns-in-Ok-clause-finds g c = grammar_finds (g.H.Shelf.files c.args.shelf.now) c.args.file.now (exports_of c.in-Ok.grammar) c.in-Ok.ensures.linked c.in-Ok.ensures.only

pub returns-in-Err-Refused-clause-finds : goal.returns-in-Err-Refused-clause-finds
returns-in-Err-Refused-clause-finds g c =
    refusal_finds (g.H.Shelf.files c.args.shelf.now) c.args.file.now _ _ _ c.refusal.result c.refused.result c.refused.ensures c.refusal.ensures
    (rw c.in-Err-Refused.field-0-is at c.in-Err-Refused.ensures.linked) (rw c.in-Err-Refused.field-0-is at c.in-Err-Refused.ensures.only)
