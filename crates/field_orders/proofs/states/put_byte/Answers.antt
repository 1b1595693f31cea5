use Rattle.std.proofs.lemmas.Result.{IfOk-weaker}
use Rattle.field_orders.proofs.Stating.{makes_byte}
use Rattle.field_orders.proofs.states.put_byte.Goals as goal

pub returns-clause-made : goal.returns-clause-made
returns-clause-made c = IfOk-weaker c.put.result _ _ (λ k h t. makes_byte t c.args.states.now c.put.new.self c.args.code c.args.next k h c.requires.within) c.put.ensures.number
