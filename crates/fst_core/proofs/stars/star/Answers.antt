use Rattle.fst_core.proofs.Tops.{starred_top}
use Rattle.fst_core.proofs.Rounds.{starred_sound, starred_reads}
use Rattle.fst_core.proofs.stars.star.Goals as goal

pub finish-requires : goal.finish-requires
finish-requires c = record {
  sound =
      starred_sound c.args.a.now c.new-built.result c.push.new.self c.place.new.self c.in_ok-row.row.items c.start.ensures.sound c.new-built.ensures.value c.in_ok-push.ensures.value (cc (c.in_ok-row.ensures)) c.in_ok-place.ensures;
}

pub returns-clause-readings : goal.returns-clause-readings
returns-clause-readings c = starred_reads c.args.a.now c.finish.result c.new-built.result c.push.new.self c.place.new.self c.in_ok-row.row.items c.start.ensures.sound c.new-built.ensures.value c.in_ok-push.ensures.value (cc (c.in_ok-row.ensures)) c.in_ok-place.ensures c.finish.ensures.value

pub returns-clause-top : goal.returns-clause-top
returns-clause-top c = starred_top c.args.a.now c.finish.result c.new-built.result c.push.new.self c.place.new.self c.in_ok-row.row.items _ _ _ _ _ c.new-built.ensures.value c.in_ok-push.ensures.value c.in_ok-row.ensures c.in_ok-place.ensures c.finish.ensures.value
