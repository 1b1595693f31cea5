use Rattle.std.proofs.Common.{◌≡◌, ◌+◌, ◌++◌, List, map, take}
use Rattle.sample_lines.specs.Summary.{Said, totals_of}
use Rattle.speak_core.specs.Outputs.{said_of}
use Rattle.speak_core.specs.Parts.{answer_of}
use Rattle.speak_core.proofs.sampling.add_answers.Given as goal

abbrev pub invariant-loop-answer : goal.invariant-loop-answer
invariant-loop-answer l =
    ((before : List Said) → l.initial.summary ≡ totals_of before → l.summary ≡ totals_of (before ++ map said_of (take l.answer-index (map answer_of l.answers))))
    × (l.summary.lines ≡ l.initial.summary.lines + l.answer-index)
