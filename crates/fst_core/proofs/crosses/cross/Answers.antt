use Rattle.std.proofs.Common.{◌+◌}
use Rattle.fst_core.proofs.Tops.{crossed_top}
use Rattle.fst_core.proofs.Chained.{crossed_sound, crossed_reads}
use Rattle.fst_core.proofs.crosses.cross.Goals as goal

pub finish-requires : goal.finish-requires
finish-requires c = record {
  sound =
      crossed_sound c.args.a.now c.args.b.now c.new-built.result c.place.new.self c.place-2.new.self c.start-next.result c.len-off.result (c.len-off.result + c.start.result) c.start.ensures.sound c.start-next.ensures.sound c.new-built.ensures.value c.start-next.ensures.value c.len-off.ensures.count (cc) c.in_ok-place.ensures c.in_ok-place-2.ensures;
}

pub returns-clause-readings : goal.returns-clause-readings
returns-clause-readings c = crossed_reads c.args.a.now c.args.b.now c.finish.result c.new-built.result c.place.new.self c.place-2.new.self c.start-next.result c.len-off.result (c.len-off.result + c.start.result) c.start.ensures.sound c.start-next.ensures.sound c.new-built.ensures.value c.start-next.ensures.value c.len-off.ensures.count (cc) c.in_ok-place.ensures c.in_ok-place-2.ensures c.finish.ensures.value c.requires.inputs c.requires.outputs

pub returns-clause-top : goal.returns-clause-top
returns-clause-top c = crossed_top c.args.a.now c.args.b.now c.finish.result c.new-built.result c.place.new.self c.place-2.new.self _ _ _ _ _ _ _ c.new-built.ensures.value c.in_ok-place.ensures c.in_ok-place-2.ensures c.finish.ensures.value
