use Rattle.std.proofs.Common.{sym, subst}
use Rattle.thrax_meaning.specs.Answers.{Gives}
use Rattle.thrax_meaning.proofs.CallRules.{invert_other}
use Rattle.thrax_meaning.proofs.args.invert_arity.Goals as goal

pub returns-clause-means : goal.returns-clause-means
returns-clause-means c = λ f s l. subst (Gives c.arity.result) (sym (invert_other f s l c.args.args.now c.requires)) c.arity.ensures.means
