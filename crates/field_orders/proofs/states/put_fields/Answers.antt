use Rattle.std.proofs.Common.{rules, ◌<◌, length}
use Rattle.std.proofs.lemmas.Result.{IfOk-weaker}
use Rattle.field_orders.proofs.Stating.{makes_fields}
use Rattle.field_orders.proofs.states.put_fields.Goals as goal

pub returns-clause-made : goal.returns-clause-made
returns-clause-made c =
    let some : 0 < length c.args.left.items = search rules in
    IfOk-weaker c.meet.result _ _ (λ k h t a. makes_fields t c.args.states.now c.meet.new.self c.args.left.items c.args.next k a some h c.requires.within) c.meet.ensures.number
