use Rattle.std.proofs.Common.{take}
use Rattle.std.specs.List.{AllPass}
use Rattle.speak_setup.specs.Forms.{is_value_byte}
use Rattle.speak_setup.proofs.line.value_len.Given as goal

abbrev pub invariant-loop-i : goal.invariant-loop-i
invariant-loop-i l = AllPass is_value_byte (take l.i l.text)
