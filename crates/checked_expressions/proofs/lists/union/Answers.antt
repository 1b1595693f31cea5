use Rattle.std.proofs.Common.{arith}
use Rattle.checked_expressions.proofs.ListRules.{union_value}
use Rattle.checked_expressions.proofs.lists.union.Goals as goal

pub invariant_of-shared : goal.invariant_of-shared
invariant_of-shared c =
    let t = c.summed-all in
    let all = union_value c.in_ok-exprs_of.field-0 c.args.values.items c.deref.result.now t.result.size t.result.acceptors t.result.weighted t.result.marked c.in_ok-exprs_of.ensures c.deref.ensures.value t.ensures.size (omega arith) t.ensures.acceptors t.ensures.weighted t.ensures.marked in
    record { counted = all.0; bounded = omega arith; accepting = all.1; weighing = all.2; marking = all.3; sound = all.4 }
