use Rattle.search_tests.proofs.Compare.{second_ends}
use Rattle.search_tests.proofs.firsts.is_below.Goals as goal

pub returns-then-i-b : goal.returns-then-i-b
returns-then-i-b c = (λ h. absurd (cc), λ h. absurd (second_ends c.args.a.now c.args.b.now c.loop-i.i c.loop-i-test.true c.if-i-b.true (c.loop-i.invariant.1 h)))
