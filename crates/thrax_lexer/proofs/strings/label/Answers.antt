use Rattle.std.proofs.Common.{sym}
use Rattle.text_forms.proofs.Lists.{some_weaker, none_weaker}
use Rattle.thrax_lexer.proofs.Texts.{found_plain, found_escape, found_bracket, missed_escape, missed_bracket}
use Rattle.thrax_lexer.proofs.strings.label.Goals as goal

pub returns-then-is_plain-clause-found : goal.returns-then-is_plain-clause-found
returns-then-is_plain-clause-found c = found_plain c.args.text.now c.in_ok-first.rest.now c.in_ok-first.first c.from.result c.in_ok-first.ensures.found c.from.ensures (sym c.if-is_plain.ensures)

pub returns-in-92-clause-found : goal.returns-in-92-clause-found
returns-in-92-clause-found c = some_weaker c.escape.result _ _ (λ x p. found_escape c.args.text.now c.in_ok-first.rest.now x.1.now c.in_ok-first.first p.0 x.0 c.in_ok-first.ensures.found c.in-92.is p.1 p.2) c.escape.ensures.found

pub returns-in-92-clause-none : goal.returns-in-92-clause-none
returns-in-92-clause-none c = none_weaker c.escape.result _ _ (λ k. missed_escape c.args.text.now c.in_ok-first.rest.now c.in_ok-first.first c.in_ok-first.ensures.found c.in-92.is k) c.escape.ensures.none

pub returns-in-91-clause-found : goal.returns-in-91-clause-found
returns-in-91-clause-found c = some_weaker c.bracketed.result _ _ (λ x p. found_bracket c.args.text.now c.in_ok-first.rest.now x.1.now p.0 c.in_ok-first.first x.0 c.in_ok-first.ensures.found c.in-91.is p.1 p.2) c.bracketed.ensures.found

pub returns-in-91-clause-none : goal.returns-in-91-clause-none
returns-in-91-clause-none c = none_weaker c.bracketed.result _ _ (λ k. missed_bracket c.args.text.now c.in_ok-first.rest.now c.in_ok-first.first c.in_ok-first.ensures.found c.in-91.is k) c.bracketed.ensures.none
