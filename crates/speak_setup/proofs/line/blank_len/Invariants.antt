use Rattle.std.proofs.Common.{take}
use Rattle.std.specs.List.{AllPass}
use Rattle.speak_setup.specs.Forms.{is_blank}
use Rattle.speak_setup.proofs.line.blank_len.Given as goal

abbrev pub invariant-loop-i : goal.invariant-loop-i
invariant-loop-i l = AllPass is_blank (take l.i l.text)
