use Rattle.std.proofs.Common.{◌≡◌, length, map}
use Rattle.speak_core.specs.Answers.{all_read}
use Rattle.speak_core.specs.Parts.{answer_of}
use Rattle.speak_core.proofs.batches.are_read.Given as goal

abbrev pub invariant-loop-rest : goal.invariant-loop-rest
invariant-loop-rest l = all_read (map answer_of l.rest) ≡ all_read (map answer_of l.heard)

abbrev pub decreases-loop-rest : goal.decreases-loop-rest
decreases-loop-rest l = length l.rest
