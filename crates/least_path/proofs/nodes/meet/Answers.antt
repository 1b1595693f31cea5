use Rattle.std.proofs.Common.{arith}
use Rattle.least_path.proofs.Arriving.{noted_known, noted_new}
use Rattle.least_path.proofs.nodes.meet.Goals as goal

pub returns-else-number-len-clause-noted : goal.returns-else-number-len-clause-noted
returns-else-number-len-clause-noted c = noted_known c.args.nodes.now c.number.new.self c.args.marks.now.items c.args.node c.in_ok-number.number c.in_ok-number.ensures.number c.requires (λ e. c.if-number-len.false (let l = c.len.ensures in let v = c.args.marks.now.ok.0 in omega arith))

pub returns-in_ok-push-clause-noted : goal.returns-in_ok-push-clause-noted
returns-in_ok-push-clause-noted c = noted_new c.args.nodes.now c.number.new.self c.args.marks.now.items c.args.node c.in_ok-number.number c.in_ok-number.ensures.number c.requires (let e = c.if-number-len.true in let l = c.len.ensures in let v = c.args.marks.now.ok.0 in omega arith) c.push.new.self.items c.in_ok-push.ensures.items
