use Rattle.std.proofs.Common.{◌≡◌, take}
use Rattle.std.specs.List.{filter_map}
use Rattle.std.proofs.lemmas.List.{take_all}
use Rattle.weighted_relations.specs.declared.Arc.{Arc}
use Rattle.compose_filter.specs.Steps.{second_step}
use Rattle.compose_filter.proofs.Readers.{readers_give, second_off}
use Rattle.fst_core.proofs.Loops.{kept_none, kept_some}
use Rattle.compose_filter.proofs.steps.add_second.Goals as goal
use Rattle.compose_filter.proofs.steps.add_second.Goals.{in-Some+in_ok-push, in_default}

pub loop-y-preserved : goal.loop-y-preserved
loop-y-preserved g c =
    let d : Arc = record { input = 0; output = 0; weight = 0; next = 0 } in
    let h = second_step g.J.Joining.step (g.J.Joining.pair c.args.joining.now) g.J.Joining.made c.args.at.now in
    let part = c.label_readers-y-items.result.now in
    elim c.match-one_second.branch [
      | in-Some+in_ok-push w ↦
          let more = kept_some h part c.loop-y.y-index d w.in-Some.m c.args.all.now.items c.loop-y-test.true (cc) in
          let items = w.in_ok-push.ensures.items in
          cc
      | in_default w ↦ let more = kept_none h part c.loop-y.y-index d c.args.all.now.items c.loop-y-test.true (cc) in cc
    ]

pub returns : goal.returns
returns g c =
    let row = c.args.row.now in
    let part = c.label_readers-y-items.result.now in
    let step = g.J.Joining.step in
    let pair = g.J.Joining.pair c.args.joining.now in
    let made = g.J.Joining.made in
    let h = second_step step pair made c.args.at.now in
    let whole : take c.loop-y.y-index part ≡ part = take_all c.loop-y.y-index part c.loop-y-test.false in
    let same : filter_map h part ≡ filter_map h row = readers_give 0 row part c.label_readers-y-items.ensures h (second_off step pair made c.args.at.now) in
    let kept = c.loop-y.invariant in
    record { moves = cc }
