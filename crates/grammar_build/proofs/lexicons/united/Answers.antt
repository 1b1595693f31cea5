use Rattle.std.proofs.Common.{arith, ◌∙◌}
use Rattle.grammar_build.proofs.Members.{greatest_within, united_reads, united_top}
use Rattle.grammar_build.proofs.lexicons.united.Goals as goal

pub returns-then-is_empty-2-clause-top : goal.returns-then-is_empty-2-clause-top
returns-then-is_empty-2-clause-top c = omega (arith, c.in_ok-tree.ensures.top, greatest_within c.args.entries.now)

pub returns-clause-readings : goal.returns-clause-readings
returns-clause-readings c = united_reads c.args.entries.now c.args.others.items c.deref-2.result.now c.in_ok-tree.tree c.in_ok-m-2.m (c.deref-2.ensures.value ∙ c.in_ok-push.ensures.items) c.in_ok-tree.ensures.readings c.in_ok-m-2.ensures.readings

pub returns-clause-top : goal.returns-clause-top
returns-clause-top c = united_top c.args.entries.now c.args.others.items c.deref-2.result.now c.in_ok-tree.tree c.in_ok-m-2.m (c.deref-2.ensures.value ∙ c.in_ok-push.ensures.items) c.in_ok-tree.ensures.top c.in_ok-m-2.ensures.top
