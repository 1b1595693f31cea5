use Rattle.std.proofs.Common.{◌≤◌, length}
use Rattle.token_record.specs.Lexemes.{StringByte}
use Rattle.text_forms.proofs.Chains.{Stands}
use Rattle.token_record.proofs.lexemes.closed.Given as goal

abbrev pub invariant-loop-byte : goal.invariant-loop-byte
invariant-loop-byte l = (length l.rest ≤ length l.fn.text) × Stands StringByte l.fn.text l.value.items l.rest

abbrev pub decreases-loop-byte : goal.decreases-loop-byte
decreases-loop-byte l = length l.rest
