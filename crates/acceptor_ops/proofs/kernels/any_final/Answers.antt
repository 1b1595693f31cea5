use Rattle.std.proofs.Common.{get_or}
use Rattle.std.proofs.lemmas.List.Elements.{Contains-get_or}
use Rattle.acceptor_ops.proofs.kernels.any_final.Goals as goal

pub final_of-requires : goal.final_of-requires
final_of-requires c = record { state = c.requires.within (get_or c.args.set.now c.loop-s.s-index 0) (Contains-get_or c.args.set.now c.loop-s.s-index 0 c.loop-s-test.true) }
