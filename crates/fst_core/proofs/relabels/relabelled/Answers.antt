use Rattle.fst_core.proofs.Tops.{alone_top}
use Rattle.fst_core.proofs.Relabelled.{alone_sound, alone_reads}
use Rattle.fst_core.proofs.relabels.relabelled.Goals as goal

pub finish-requires : goal.finish-requires
finish-requires c = record {
  sound =
      alone_sound c.args.a.now c.new-built.result c.place.new.self c.args.input c.args.output c.start-start.ensures.sound c.new-built.ensures.value c.in_ok-place.ensures c.start-start.result c.start-start.ensures.value;
}

pub returns-clause-readings : goal.returns-clause-readings
returns-clause-readings c = alone_reads c.args.a.now c.new-built.result c.place.new.self c.args.input c.args.output c.start-start.ensures.sound c.new-built.ensures.value c.in_ok-place.ensures c.start-start.result c.finish.result c.start-start.ensures.value c.finish.ensures.value

pub returns-clause-top : goal.returns-clause-top
returns-clause-top c = alone_top c.args.a.now c.finish.result c.new-built.result c.place.new.self _ _ _ c.new-built.ensures.value c.in_ok-place.ensures c.finish.ensures.value
