use Rattle.std.proofs.Common.{rules, of_calls, leb}
use Rattle.std.proofs.lemmas.Fn.{always_returns_same}
use Rattle.fst_core.proofs.Readers.{sorted_is}
use Rattle.fst_core.proofs.orders.is_sorted_row.Goals as goal

pub returns : goal.returns
returns c = record { sorted = sorted_is c.args.row.now c.is_sorted_by.result (c.is_sorted_by.ensures.cases (λ a b. leb a.input b.input) (always_returns_same _ _ _ (λ a r f k. search (rules, of_calls)))) }
