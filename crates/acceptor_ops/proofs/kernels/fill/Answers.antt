use Rattle.std.proofs.Common.{◌≡◌, ◌<◌, ◌+◌, length, get_or, true≢false, ap, sym, subst, ◌∙◌, arith}
use Rattle.std.proofs.lemmas.Option.{slice_get-get_or}
use Rattle.weighted_relations.specs.declared.Arc.{Arc}
use Rattle.acceptor_ops.specs.Tables.{class_of}
use Rattle.acceptor_ops.specs.StateSets.{RowFilled, with_element}
use Rattle.acceptor_ops.proofs.Filling.{row_none, row_put, row_skip}
use Rattle.acceptor_ops.proofs.kernels.fill.Goals as goal
use Rattle.acceptor_ops.proofs.kernels.fill.Goals.{then-has_label+in_ok-put, else-has_label}

pub loop-arc-init : goal.loop-arc-init
loop-arc-init c = row_none c.args.classes.now.classes c.args.row.now c.args.buckets.now

pub of-requires : goal.of-requires
of-requires c =
    let d : Arc = record { input = 0; output = 0; weight = 0; next = 0 } in
    record { label = (c.requires.within c.loop-arc.arc-index (get_or c.args.row.now c.loop-arc.arc-index d) (slice_get-get_or c.args.row.now c.loop-arc.arc-index d c.loop-arc-test.true)).label }

pub put-requires : goal.put-requires
put-requires c =
    let d : Arc = record { input = 0; output = 0; weight = 0; next = 0 } in
    let fits = c.requires.within c.loop-arc.arc-index (get_or c.args.row.now c.loop-arc.arc-index d) (slice_get-get_or c.args.row.now c.loop-arc.arc-index d c.loop-arc-test.true) in
    record { within = subst (λ n. c.of.result < n) (sym c.loop-arc.invariant.count) (subst (λ n. n < length c.args.buckets.now) (sym c.of.ensures.value) fits.class) }

pub loop-arc-preserved : goal.loop-arc-preserved
loop-arc-preserved c =
    let d : Arc = record { input = 0; output = 0; weight = 0; next = 0 } in
    let a = get_or c.args.row.now c.loop-arc.arc-index d in
    let at = slice_get-get_or c.args.row.now c.loop-arc.arc-index d c.loop-arc-test.true in
    let fits = c.requires.within c.loop-arc.arc-index a at in
    elim c.if-has_label.branch [
      | then-has_label+in_ok-put w ↦
          subst (RowFilled c.args.classes.now.classes c.args.row.now (c.loop-arc.arc-index + 1) c.args.buckets.now) (sym (w.buckets-is ∙ w.in_ok-put.ensures.value ∙ ap (λ n. with_element c.loop-arc.buckets n a.next) w.of.ensures.value))
          (row_put c.args.classes.now.classes c.args.row.now c.loop-arc.arc-index c.args.buckets.now c.loop-arc.buckets a c.loop-arc.invariant at (c.has_label.ensures.label.0 w.if-has_label.true)
          (subst (λ n. class_of c.args.classes.now.classes a.input < n) (sym c.loop-arc.invariant.count) fits.class))
      | else-has_label w ↦
          subst (RowFilled c.args.classes.now.classes c.args.row.now (c.loop-arc.arc-index + 1) c.args.buckets.now) (sym w.buckets-is)
          (row_skip c.args.classes.now.classes c.args.row.now c.loop-arc.arc-index c.args.buckets.now c.loop-arc.buckets a c.loop-arc.invariant at (λ h. absurd (true≢false (sym (c.has_label.ensures.label.1 h) ∙ w.if-has_label.false))))
    ]

pub returns : goal.returns
returns c =
    let e : c.loop-arc.arc-index ≡ length c.args.row.now = omega arith in
    record { filled = subst (λ k. RowFilled c.args.classes.now.classes c.args.row.now k c.args.buckets.now c.loop-arc.buckets) e c.loop-arc.invariant }
