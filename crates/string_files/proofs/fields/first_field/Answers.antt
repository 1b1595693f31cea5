use Rattle.std.proofs.Common.{arith}
use Rattle.string_files.proofs.Cuts.{first-tab, no-tab, no-more}
use Rattle.string_files.proofs.fields.first_field.Goals as goal

pub returns-then-line-at-eq9-clause-more : goal.returns-then-line-at-eq9-clause-more
returns-then-line-at-eq9-clause-more c = first-tab _ _ c.loop-at-test.true c.loop-at.invariant.1 c.if-line-at-eq9.true

pub loop-at-preserved : goal.loop-at-preserved
loop-at-preserved c =
    (omega arith, no-more 9 _ _ c.loop-at-test.true c.loop-at.invariant.1 c.if-line-at-eq9.false)

pub returns-clause-last : goal.returns-clause-last
returns-clause-last c = no-tab _ _ c.loop-at-test.false c.loop-at.invariant.1
