use Rattle.std.proofs.Common.{◌≡◌, rules}
use Rattle.std.proofs.lemmas.Fn.{always_returns_same}
use Rattle.merged_arcs.proofs.Standing.{label_key, sorted_together}
use Rattle.merged_arcs.proofs.rows.put_in_order.Goals as goal

pub returns-clause-together : goal.returns-clause-together
returns-clause-together c = sorted_together _ (c.sort_unstable_by_key.ensures.sorted label_key (always_returns_same _ (λ a r. r ≡ label_key a.0.now) _ (λ a r q k. search rules)))
