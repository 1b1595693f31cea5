use Rattle.std.proofs.Common.{rules, ◌<◌, length}
use Rattle.state_table.proofs.Numbering.{kept_within}
use Rattle.field_orders.proofs.Rows.{any_default, row_more}
use Rattle.field_orders.proofs.states.field_row.Goals as goal

pub choice-requires-clause-within : goal.choice-requires-clause-within
choice-requires-clause-within c = kept_within c.loop-i.invariant.grew.keeps c.args.next c.requires.within

pub loop-i-preserved : goal.loop-i-preserved
loop-i-preserved c =
    let l : c.loop-i.i < length c.args.left.now = search rules in
    row_more c.args.table.now c.args.states.now c.loop-i.states c.choice.new.states c.args.left.now c.args.next c.loop-i.i _ c.in_ok-others.others.items c.loop-i.row.items c.push.new.self.items c.in_ok-choice.field-0 (any_default c.args.left.now c.loop-i.i _ 0 l) c.in_ok-others.ensures c.in_ok-push.ensures.items c.loop-i.invariant c.in_ok-choice.ensures.grew c.in_ok-choice.ensures.arc
