use Rattle.std.proofs.Common.{length, ◌≤◌, List, ℕ}
use Rattle.thrax_lexer.specs.Strings.{Label}
use Rattle.text_forms.proofs.Chains.{Stands}
use Rattle.thrax_lexer.proofs.strings.closed.Given as goal

abbrev pub invariant-loop-after : goal.invariant-loop-after
invariant-loop-after l = (length l.rest ≤ length l.text) × ((ns : List ℕ) × Stands Label l.text ns l.rest)

abbrev pub decreases-loop-after : goal.decreases-loop-after
decreases-loop-after l = length l.rest
