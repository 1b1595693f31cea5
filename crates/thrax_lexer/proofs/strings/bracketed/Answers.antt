use Rattle.std.proofs.Common.{sym, subst}
use Rattle.thrax_lexer.specs.Strings.{Named}
use Rattle.thrax_lexer.proofs.Texts.{bracket_run}
use Rattle.thrax_lexer.proofs.strings.bracketed.Goals as goal

pub returns-in_err-rest-clause-none : goal.returns-in_err-rest-clause-none
returns-in_err-rest-clause-none c = rw c.from_residual.ensures (λ x n d r h. c.in_err-rest.ensures.none d (sym (bracket_run c.args.text.now c.span.result.0.now c.span.result.1.now x d c.span.ensures r).1))

pub returns-in_err-named-clause-none : goal.returns-in_err-named-clause-none
returns-in_err-named-clause-none c = rw c.from_residual-in_err-named.ensures (λ x n d r h. c.in_err-named.ensures.none n (subst (λ v. Named v n) (bracket_run c.args.text.now c.span.result.0.now c.span.result.1.now x d c.span.ensures r).0 h))
