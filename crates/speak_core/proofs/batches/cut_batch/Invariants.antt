use Rattle.std.proofs.Common.{◌≡◌, ◌≤◌, ◌+◌, ◌++◌, ◌<◌, ◌⊎◌, length}
use Rattle.text_lines.specs.Lines.{lines}
use Rattle.speak_core.specs.Parts.{lines_of}
use Rattle.speak_core.proofs.batches.cut_batch.Given as goal

abbrev pub invariant-loop-lines : goal.invariant-loop-lines
invariant-loop-lines l =
    (lines l.text ≡ lines_of l.lines.items ++ lines l.rest) × (length l.lines.items ≤ 1024) × (length l.lines.items + length l.rest ≤ length l.text)
    × ((0 < length l.lines.items) ⊎ (l.rest ≡ l.text))

abbrev pub decreases-loop-lines : goal.decreases-loop-lines
decreases-loop-lines l = length l.rest
