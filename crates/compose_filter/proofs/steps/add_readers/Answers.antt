use Rattle.weighted_relations.specs.declared.Arc.{Arc}
use Rattle.compose_filter.specs.Steps.{both_step}
use Rattle.fst_core.proofs.Loops.{kept_none, kept_some}
use Rattle.compose_filter.proofs.steps.add_readers.Goals as goal
use Rattle.compose_filter.proofs.steps.add_readers.Goals.{in-Some+in_ok-push, in_default}

pub loop-y-preserved : goal.loop-y-preserved
loop-y-preserved g c =
    let d : Arc = record { input = 0; output = 0; weight = 0; next = 0 } in
    let h = both_step g.J.Joining.step (g.J.Joining.pair c.args.joining.now) g.J.Joining.made c.args.x.now in
    elim c.match-one_both.branch [
      | in-Some+in_ok-push w ↦
          let more = kept_some h c.args.row.now c.loop-y.y-index d w.in-Some.m c.args.all.now.items c.loop-y-test.true (cc) in
          let items = w.in_ok-push.ensures.items in
          cc
      | in_default w ↦ let more = kept_none h c.args.row.now c.loop-y.y-index d c.args.all.now.items c.loop-y-test.true (cc) in cc
    ]
