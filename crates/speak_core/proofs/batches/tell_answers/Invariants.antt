use Rattle.std.proofs.Common.{◌≡◌, ◌+◌, false, map, take}
use Rattle.speak_core.specs.Answers.{told, written}
use Rattle.speak_core.specs.Parts.{answer_of, tally_of}
use Rattle.speak_core.proofs.batches.tell_answers.Given as goal

abbrev pub invariant-loop-line : goal.invariant-loop-line
invariant-loop-line l =
    (l.number ≡ l.first + l.line-index) × (l.told.words.items ≡ written (map answer_of (take l.line-index l.heard))) × (l.told.faults.items ≡ told l.report l.first (map answer_of (take l.line-index l.heard)) (map tally_of (take l.line-index l.heard)))
    × (l.told.is_whole ≡ false)
