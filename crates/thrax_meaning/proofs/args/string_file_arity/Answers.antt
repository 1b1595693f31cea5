use Rattle.std.proofs.Common.{sym, subst}
use Rattle.thrax_meaning.specs.Answers.{Gives}
use Rattle.thrax_meaning.proofs.CallRules.{string_other}
use Rattle.thrax_meaning.proofs.args.string_file_arity.Goals as goal

pub returns-clause-means : goal.returns-clause-means
returns-clause-means c = λ f s l. subst (Gives c.arity.result) (sym (string_other f s l c.args.args.now c.requires)) c.arity.ensures.means
