use Rattle.weighted_relations.specs.declared.Arc.{Arc}
use Rattle.state_tuples.specs.Stages.{alone_arc}
use Rattle.fst_core.proofs.Loops.{kept_none, kept_some}
use Rattle.state_tuples.proofs.joins.add_alone.Goals as goal
use Rattle.state_tuples.proofs.joins.add_alone.Goals.{in-Some+in_ok-push, in_default}

pub loop-y-preserved : goal.loop-y-preserved
loop-y-preserved c =
    let d : Arc = record { input = 0; output = 0; weight = 0; next = 0 } in
    elim c.match-one_alone.branch [
      | in-Some+in_ok-push w ↦
          let more = kept_some (alone_arc c.args.asked) c.args.row.now c.loop-y.y-index d w.in-Some.m c.args.all.now.items c.loop-y-test.true (cc) in
          let items = w.in_ok-push.ensures.items in
          cc
      | in_default w ↦ let more = kept_none (alone_arc c.args.asked) c.args.row.now c.loop-y.y-index d c.args.all.now.items c.loop-y-test.true (cc) in cc
    ]
