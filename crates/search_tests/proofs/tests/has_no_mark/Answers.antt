use Rattle.std.proofs.Common.{arith}
use Rattle.search_tests.proofs.Marks.{plain_unmarked}
use Rattle.search_tests.proofs.tests.has_no_mark.Goals as goal

pub returns : goal.returns
returns c = λ _. plain_unmarked c.args.rule.now (λ s k d l h. c.loop-state.invariant s k d (omega (arith, l, c.loop-state-test.false, c.len-state-end.ensures.count)) h)
