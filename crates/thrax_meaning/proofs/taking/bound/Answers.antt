use Rattle.std.proofs.Common.{arith}
use Rattle.thrax_meaning.proofs.Bindings.{more_full, more_bound}
use Rattle.thrax_meaning.proofs.taking.bound.Goals as goal

pub loop-value-preserved-in-Continue-branch-2 : goal.loop-value-preserved-in-Continue-branch-2
loop-value-preserved-in-Continue-branch-2 c = more_bound c.args.params.now c.loop-value.yielded c.in-Some.value c.loop-value.all.items c.push.new.self.items c.len-at.result c.in_ok-name.name c.index-params-at.result c.loop-value.invariant (omega arith) (omega arith) c.index-params-at.is c.in_ok-name.ensures c.in_ok-push.ensures.items

pub loop-value-preserved : goal.loop-value-preserved
loop-value-preserved c = more_full c.args.params.now c.loop-value.yielded c.in-Some.value c.loop-value.all.items c.loop-value.invariant (omega arith)
