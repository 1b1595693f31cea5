use Rattle.std.proofs.Common.{◌≡◌}
use Rattle.fst_core.specs.Turned.{TurnedArcs, Below}
use Rattle.fst_core.proofs.lives.backwards.Given as goal

abbrev pub invariant-loop-s : goal.invariant-loop-s
invariant-loop-s l = record { turned : TurnedArcs l.a (Below l.s) l.built.arcs; finals : l.built.finals ≡ l.initial.built.finals }
