use Rattle.std.proofs.Common.{sym, subst}
use Rattle.thrax_meaning.specs.Answers.{Gives}
use Rattle.thrax_meaning.proofs.CallRules.{optimize_other}
use Rattle.thrax_meaning.proofs.args.optimize_arity.Goals as goal

pub returns-clause-means : goal.returns-clause-means
returns-clause-means c = λ f s l. subst (Gives c.arity.result) (sym (optimize_other f s l c.args.args.now c.requires)) c.arity.ensures.means
