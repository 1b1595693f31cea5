use Rattle.std.proofs.Common.{sym, subst, arith}
use Rattle.thrax_meaning.specs.Answers.{Gives}
use Rattle.thrax_meaning.specs.Tables.{scope_at, locals_at}
use Rattle.thrax_meaning.proofs.CallRules.{rewrite_some}
use Rattle.thrax_meaning.proofs.taking.+take.Goals as goal

pub call_rewrite-returns-clause-means : goal.call_rewrite-returns-clause-means
call_rewrite-returns-clause-means g t c = λ known told.
    subst (Gives c.take_rewrite.result) (sym (rewrite_some known (scope_at known c.args.place.now) (locals_at c.args.place.now) c.args.args.now _ _ _ _ _ c.in-Some.ensures.some (omega arith))) (c.take_rewrite.ensures.means known told)
