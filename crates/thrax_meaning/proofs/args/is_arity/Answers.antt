use Rattle.std.proofs.Common.{◌≡◌, ◌∙◌, sym, ap, rules, length}
use Rattle.std.specs.Prelude.{◌==◌}
use Rattle.thrax_meaning.proofs.Fronts.{count_is}
use Rattle.thrax_meaning.proofs.args.is_arity.Goals as goal

pub returns : goal.returns
returns c = (let e : _ ≡ (length c.args.function.now.params.items == length c.args.args.now) = search rules in e) ∙ ap (λ k. length c.args.function.now.params.items == k) (sym (count_is c.args.args.now))
