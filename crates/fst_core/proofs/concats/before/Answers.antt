use Rattle.std.proofs.Common.{◌+◌}
use Rattle.fst_core.proofs.Tops.{before_top}
use Rattle.fst_core.proofs.Chained.{before_sound, before_reads}
use Rattle.fst_core.proofs.concats.before.Goals as goal

pub finish-requires : goal.finish-requires
finish-requires c = record {
  sound =
      before_sound c.args.p.now c.args.rest c.into_builder-built.result c.place.new.self c.start-next.result (c.len-off.result + c.start.result)
      c.start.ensures.sound c.start-next.ensures.sound c.into_builder-built.ensures.value c.start-next.ensures.value c.in_ok-place.ensures (cc (c.len-off.ensures.count));
}

pub returns-clause-readings : goal.returns-clause-readings
returns-clause-readings c =
    before_reads c.args.p.now c.args.rest c.finish.result c.into_builder-built.result c.place.new.self c.start-next.result (c.len-off.result + c.start.result)
    c.start.ensures.sound c.start-next.ensures.sound c.into_builder-built.ensures.value c.start-next.ensures.value c.in_ok-place.ensures (cc (c.len-off.ensures.count)) c.finish.ensures.value

pub returns-clause-top : goal.returns-clause-top
returns-clause-top c = before_top c.args.p.now c.args.rest c.finish.result c.into_builder-built.result c.place.new.self _ _ _ _ c.into_builder-built.ensures.value c.in_ok-place.ensures c.finish.ensures.value
