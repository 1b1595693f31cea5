use Rattle.std.proofs.Common.{◌≡◌, sym, subst, rules, length}
use Rattle.thrax_meaning.specs.declared.why.Why.TheVariants.{Arity}
use Rattle.thrax_meaning.specs.Answers.{Gives}
use Rattle.thrax_meaning.specs.Meaning.{refused}
use Rattle.thrax_meaning.proofs.Fronts.{count_is}
use Rattle.thrax_meaning.proofs.args.function_arity.Goals as goal

pub returns-clause-means : goal.returns-clause-means
returns-clause-means c =
    subst (λ k. Gives c.arity.result (refused (Arity (length c.args.function.now.params.items) k))) (sym (count_is c.args.args.now))
    (subst (λ m. Gives c.arity.result (refused (Arity m (length c.args.args.now)))) (let e : c.len.result ≡ length c.args.function.now.params.items = search rules in e) c.arity.ensures.means)
