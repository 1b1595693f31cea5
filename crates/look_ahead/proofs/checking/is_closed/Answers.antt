use Rattle.std.proofs.Common.{◌<◌, arith, below_more}
use Rattle.look_ahead.proofs.Closed.{closed_ahead}
use Rattle.look_ahead.proofs.checking.is_closed.Goals as goal

pub loop-s-preserved : goal.loop-s-preserved
loop-s-preserved c = below_more _ _ c.loop-s.invariant (c.is_closed_at.ensures c.if-not-is_closed_at.false)

pub returns : goal.returns
returns c = λ e. closed_ahead c.args.m.now c.args.sets.now c.start-start.ensures.sound (λ s l. c.loop-s.invariant s (let m : s < c.loop-s.s = omega arith in m))
