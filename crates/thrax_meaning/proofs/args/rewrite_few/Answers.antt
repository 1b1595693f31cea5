use Rattle.std.proofs.Common.{sym, subst}
use Rattle.thrax_meaning.specs.Answers.{Gives}
use Rattle.thrax_meaning.proofs.CallRules.{rewrite_few}
use Rattle.thrax_meaning.proofs.args.rewrite_few.Goals as goal

pub returns-clause-means : goal.returns-clause-means
returns-clause-means c = λ f s l. subst (Gives c.arity.result) (sym (rewrite_few f s l c.args.args.now c.requires)) c.arity.ensures.means
