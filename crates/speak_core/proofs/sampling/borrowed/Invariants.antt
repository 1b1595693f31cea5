use Rattle.std.proofs.Common.{◌≡◌, map, take}
use Rattle.speak_core.specs.Parts.{lines_of}
use Rattle.speak_core.proofs.sampling.borrowed.Given as goal

abbrev pub invariant-loop-line : goal.invariant-loop-line
invariant-loop-line l = lines_of l.lines.items ≡ map (λ line. line.items) (take l.line-index l.batch)
