use Rattle.std.proofs.Common.{sym, subst}
use Rattle.thrax_meaning.specs.Answers.{Gives}
use Rattle.thrax_meaning.proofs.CallRules.{rewrite_many}
use Rattle.thrax_meaning.proofs.args.rewrite_many.Goals as goal

pub returns-clause-means : goal.returns-clause-means
returns-clause-means c = λ f s l. subst (Gives c.arity.result) (sym (rewrite_many f s l c.args.args.now _ _ _ _ _ c.requires.shape c.requires.many)) c.arity.ensures.means
