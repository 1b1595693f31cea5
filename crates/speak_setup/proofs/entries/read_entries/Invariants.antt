use Rattle.std.proofs.Common.{length}
use Rattle.speak_setup.specs.Parts.{ReadsPart}
use Rattle.speak_setup.proofs.entries.read_entries.Given as goal

abbrev pub invariant-loop-rest : goal.invariant-loop-rest
invariant-loop-rest l = ReadsPart l.text l.rest l.number l.found

abbrev pub decreases-loop-rest : goal.decreases-loop-rest
decreases-loop-rest l = length l.rest
