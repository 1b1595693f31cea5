use Rattle.std.proofs.Common.{◌+◌, ◌<◌, get_or, subst, sym}
use Rattle.std.proofs.lemmas.Option.{slice_get-get_or}
use Rattle.weighted_relations.specs.declared.Arc.{Arc}
use Rattle.acceptor_ops.specs.Alike.{RowNoted}
use Rattle.acceptor_ops.proofs.Labels.{noted_more}
use Rattle.acceptor_ops.proofs.classes.note.Goals as goal

pub loop-arc-preserved : goal.loop-arc-preserved
loop-arc-preserved c =
    let d : Arc = record { input = 0; output = 0; weight = 0; next = 0 } in
    let k = c.loop-arc.arc-index in
    let a : Arc = get_or c.args.row.now k d in
    let at = slice_get-get_or c.args.row.now k d c.loop-arc-test.true in
    subst (RowNoted c.args.s c.args.row.now (k + 1) c.args.pairs.now c.args.steps.now c.number.new.self) (sym c.in_ok-put.ensures.value)
    (noted_more c.args.s c.args.row.now k c.args.pairs.now c.loop-arc.pairs c.number.new.self c.args.steps.now c.loop-arc.steps a c.in_ok-step.step c.loop-arc.invariant at
    (subst (λ n. a.input < n) (sym c.loop-arc.invariant.count) (c.requires.within k a at)) c.in_ok-step.ensures.number)
