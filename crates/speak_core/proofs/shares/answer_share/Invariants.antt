use Rattle.std.proofs.Common.{◌≡◌, ◌+◌, map}
use Rattle.normaliser.specs.Searches.{IsCallerOf, KeepsSeat}
use Rattle.speak_core.specs.Logs.{Grows}
use Rattle.speak_core.specs.Parts.{says_of, tally_of}
use Rattle.speak_core.proofs.Dealing.{HeardSoFar}
use Rattle.speak_core.proofs.shares.answer_share.Given as goal

abbrev pub invariant-loop-line : goal.invariant-loop-line
invariant-loop-line g l =
    HeardSoFar (says_of l.speaker) l.initial.share l.line-index l.heard.items
    × (l.number ≡ l.initial.share.first + l.line-index)
    × IsCallerOf l.speaker.normaliser l.share.caller
    × (l.share ≡ record l.initial.share { caller = l.share.caller })
    × Grows l.speaker.normaliser l.initial.share.caller l.share.caller (map tally_of l.heard.items)
    × KeepsSeat l.initial.share.caller l.share.caller
