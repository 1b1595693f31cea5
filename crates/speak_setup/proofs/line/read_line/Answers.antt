use Rattle.std.proofs.Common.{sym, ◌∙◌}
use Rattle.speak_setup.proofs.Fronts.{bad_line, some_of, of_none}
use Rattle.speak_setup.proofs.line.read_line.Goals as goal

pub returns-in-None : goal.returns-in-None
returns-in-None c =
    bad_line _ _ _ c.after_blanks-text.ensures.1 (some_of _ (sym c.is_empty.ensures ∙ c.if-is_empty.false)) (of_none c.after_text.result _ (sym c.is_some.ensures ∙ c.if-is_some.false) c.after_text.ensures.none) c.in-None.ensures.none
