use Rattle.std.proofs.Common.{length, ◌≤◌, ◌+◌, vec_len}
use Rattle.thrax_lexer.specs.Strings.{Label}
use Rattle.text_forms.proofs.Chains.{Stands}
use Rattle.thrax_lexer.proofs.strings.labels.Given as goal

abbrev pub invariant-loop-next : goal.invariant-loop-next
invariant-loop-next l = (length l.rest + vec_len l.found ≤ length l.text) × Stands Label l.text l.found.items l.rest

abbrev pub decreases-loop-next : goal.decreases-loop-next
decreases-loop-next l = length l.rest
