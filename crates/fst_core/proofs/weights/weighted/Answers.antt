use Rattle.std.proofs.Common.{◌<◌, ◌^◌, Some, ap, ◌∙◌, arith}
use Rattle.fst_core.specs.States.{with_state}
use Rattle.fst_core.proofs.Tops.{weighted_top}
use Rattle.fst_core.proofs.Relabelled.{weighted_sound, weighted_reads}
use Rattle.fst_core.proofs.weights.weighted.Goals as goal

pub finish-requires : goal.finish-requires
finish-requires c = record {
  sound =
      let small : c.args.weight < 2 ^ 54 = omega arith in
      weighted_sound c.args.a.now c.new-built.result c.push.new.self c.place.new.self c.new.result.items c.args.weight c.start-start.ensures.sound small c.new-built.ensures.value c.new.ensures.items
      (c.in_ok-push.ensures.value ∙ ap (λ w. with_state c.new-built.result c.new.result.items (Some w)) c.from.ensures) c.in_ok-place.ensures _ (cc (c.start-start.ensures.value));
}

pub returns-clause-readings : goal.returns-clause-readings
returns-clause-readings c =
    let small : c.args.weight < 2 ^ 54 = omega arith in
    weighted_reads c.args.a.now c.new-built.result c.push.new.self c.place.new.self c.new.result.items c.args.weight c.start-start.ensures.sound small c.new-built.ensures.value c.new.ensures.items
    (c.in_ok-push.ensures.value ∙ ap (λ w. with_state c.new-built.result c.new.result.items (Some w)) c.from.ensures) c.in_ok-place.ensures _ c.finish.result (cc (c.start-start.ensures.value)) c.finish.ensures.value

pub returns-clause-top : goal.returns-clause-top
returns-clause-top c = weighted_top c.args.a.now c.finish.result c.new-built.result c.push.new.self c.place.new.self c.new.result.items c.args.weight _ _ _ _ c.new-built.ensures.value c.new.ensures.items (c.in_ok-push.ensures.value ∙ ap (λ w. with_state c.new-built.result c.new.result.items (Some w)) c.from.ensures) c.in_ok-place.ensures c.finish.ensures.value
