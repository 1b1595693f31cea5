use Rattle.std.proofs.Common.{◌≡◌, ◌≢◌, length, arith}
use Rattle.least_path.proofs.Noting.{noted_known, noted_new, none_new, next_new}
use Rattle.least_path.proofs.standings.note.Goals as goal

pub returns-else-number-len-clause-noted : goal.returns-else-number-len-clause-noted
returns-else-number-len-clause-noted g c =
    let other : c.in_ok-number.number ≢ length c.args.marks.now.items = λ e. c.if-number-len.false (let l = c.len.ensures in let v = c.args.marks.now.ok.0 in omega arith) in
    noted_known c.args.unmet c.args.nodes.now c.number.new.self c.args.marks.now.items c.args.node c.in_ok-number.number c.in_ok-number.ensures.number c.requires
    (none_new c.args.unmet c.args.nodes.now c.number.new.self c.args.marks.now.items c.args.node c.in_ok-number.number c.in_ok-number.ensures.number c.requires c.number.ensures.distinct other)

pub returns-in_ok-push-clause-noted : goal.returns-in_ok-push-clause-noted
returns-in_ok-push-clause-noted g c =
    let next : c.in_ok-number.number ≡ length c.args.marks.now.items = (let e = c.if-number-len.true in let l = c.len.ensures in let v = c.args.marks.now.ok.0 in omega arith) in
    noted_new c.args.unmet c.args.nodes.now c.number.new.self c.args.marks.now.items c.args.node c.in_ok-number.number c.in_ok-number.ensures.number c.requires c.push.new.self.items
    (next_new c.args.unmet c.args.nodes.now c.number.new.self c.args.marks.now.items c.args.node c.in_ok-number.number c.in_ok-number.ensures.number c.requires next) c.in_ok-push.ensures.items
