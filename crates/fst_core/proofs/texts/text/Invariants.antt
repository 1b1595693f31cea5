use Rattle.fst_core.proofs.Strings.{Chain}
use Rattle.fst_core.proofs.texts.text.Given as goal

abbrev pub invariant-loop-i : goal.invariant-loop-i
invariant-loop-i l = Chain l.labels l.i l.built
