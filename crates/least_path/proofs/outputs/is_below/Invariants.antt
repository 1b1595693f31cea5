use Rattle.std.proofs.Common.{◌≡◌, ◌<◌, length}
use Rattle.least_path.specs.Texts.{texts, text_of}
use Rattle.least_path.proofs.Walks.{Walked}
use Rattle.least_path.proofs.outputs.is_below.Given as goal

abbrev pub invariant-loop-x : goal.invariant-loop-x
invariant-loop-x l =
    (l.x < length (texts l.letters)) × (l.y < length (texts l.letters))
    × (length (text_of (texts l.letters) l.a) ≡ length (text_of (texts l.letters) l.b) → Walked (texts l.letters) l.a l.b l.x l.y l.below)

abbrev pub decreases-loop-x : goal.decreases-loop-x
decreases-loop-x l = l.x
