use Rattle.std.proofs.Common.{◌≡◌, length}
use Rattle.fst_core.specs.States.{Adds}
use Rattle.fst_core.proofs.builder.Builder.place.Given as goal

abbrev pub invariant-loop-s : goal.invariant-loop-s
invariant-loop-s l = record {
  off : l.off ≡ length l.fn.self.arcs;
  adds : Adds l.fn.self l.self l.p l.s l.input l.output l.exit;
}
