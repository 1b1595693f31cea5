use Rattle.std.proofs.Common.{sym, ap}
use Rattle.compose_filter.specs.Steps.{first_step}
use Rattle.fst_core.proofs.Loops.{kept_none, kept_some}
use Rattle.compose_filter.proofs.steps.add_first.Goals as goal
use Rattle.compose_filter.proofs.steps.add_first.Goals.{in-Some+in_ok-push, in_default}

pub loop-x-preserved : goal.loop-x-preserved
loop-x-preserved g c =
    let x = c.x-item.result in
    let h = first_step g.J.Joining.step (g.J.Joining.pair c.args.joining.now) g.J.Joining.made c.args.q c.args.filter in
    let left = c.args.left.now in
    let is = ap h (sym c.x-item.is) in
    elim c.match-one_first.branch [
      | in-Some+in_ok-push w ↦
          let more = kept_some h left c.loop-x.x-index x w.in-Some.m c.args.all.now.items c.loop-x-test.true (cc) in
          let items = w.in_ok-push.ensures.items in
          cc
      | in_default w ↦ let more = kept_none h left c.loop-x.x-index x c.args.all.now.items c.loop-x-test.true (cc) in cc
    ]
