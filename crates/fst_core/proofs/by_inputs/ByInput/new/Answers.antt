use Rattle.std.proofs.Common.{◌≡◌, length, arith}
use Rattle.fst_core.proofs.Reordered.{reordered_sound}
use Rattle.fst_core.proofs.by_inputs.ByInput.new.Goals as goal

pub finish-requires : goal.finish-requires
finish-requires c =
    let all : c.loop-s.s ≡ length c.args.a.now.arcs = omega arith in
    record { sound = reordered_sound c.args.a.now c.loop-s.built c.loop-s.s c.start-start.result c.start-start.ensures.sound c.loop-s.invariant all c.start-start.ensures.value }
