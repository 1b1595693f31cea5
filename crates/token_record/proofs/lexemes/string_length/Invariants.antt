use Rattle.std.proofs.Common.{◌≤◌, length}
use Rattle.token_record.proofs.lexemes.string_length.Given as goal

abbrev pub invariant-loop-after : goal.invariant-loop-after
invariant-loop-after l = length l.rest ≤ length l.fn.text

abbrev pub decreases-loop-after : goal.decreases-loop-after
decreases-loop-after l = length l.rest
