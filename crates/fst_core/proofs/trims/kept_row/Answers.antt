use Rattle.std.proofs.Common.{◌≡◌, ◌<◌, Some, None, [], get_or, length, false, ap, Vec, Global}
use Rattle.std.proofs.lemmas.Bool.{cond-true, cond-false}
use Rattle.std.proofs.lemmas.Option.{slice_get-get_or}
use Rattle.weighted_relations.specs.declared.Arc.{Arc}
use Rattle.fst_core.specs.Useful.{rank, renumbered, to_kept}
use Rattle.fst_core.proofs.Loops.{kept_none, kept_some}
use Rattle.fst_core.proofs.trims.kept_row.Goals as goal
use Rattle.fst_core.proofs.trims.kept_row.Goals.{then-keep-a+in_ok-push, else-keep-a}

pub loop-a-preserved : goal.loop-a-preserved
loop-a-preserved c =
    let d : Arc = record { input = 0; output = 0; weight = 0; next = 0 } in
    let keep = c.args.keep.now in
    let i = c.loop-a.a-index in
    let a : Arc = get_or c.args.row.now i d in
    elim c.if-keep-a.branch [
      | then-keep-a+in_ok-push w ↦
          let within : a.next < length keep = c.requires.within i a (slice_get-get_or c.args.row.now i d c.loop-a-test.true) in
          let number : get_or c.args.ranks.now a.next 0 ≡ rank keep a.next = c.requires.ranks a.next within in
          let more = kept_some (to_kept keep) c.args.row.now i d (renumbered keep a) [] c.loop-a-test.true (cond-true (get_or keep a.next false) (Some (renumbered keep a)) None w.if-keep-a.true) in
          let items = w.in_ok-push.ensures.items in
          let now = ap (λ (v : Vec Arc Global). v.items) w.arcs-is in
          cc
      | else-keep-a w ↦
          let more = kept_none (to_kept keep) c.args.row.now i d [] c.loop-a-test.true (cond-false (get_or keep a.next false) (Some (renumbered keep a)) None w.if-keep-a.false) in
          let now = ap (λ (v : Vec Arc Global). v.items) w.arcs-is in
          cc
    ]
