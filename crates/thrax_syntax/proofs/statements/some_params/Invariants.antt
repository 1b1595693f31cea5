use Rattle.std.proofs.Common.{◌≡◌, ◌<◌, ◌++◌, List, ℕ, map, length}
use Rattle.thrax_lexer.specs.Lexemes.{lex_of}
use Rattle.text_forms.proofs.Chains.{Stands}
use Rattle.thrax_syntax.specs.Statements.{NextParam}
use Rattle.thrax_syntax.proofs.statements.some_params.Given as goal

abbrev pub invariant-loop-next : goal.invariant-loop-next
invariant-loop-next l = (more : List (List ℕ)) × (length l.rest < length l.fn.lexemes) × (l.params.items ≡ l.initial.params.items ++ more) × Stands NextParam (map lex_of l.initial.rest) more (map lex_of l.rest)

abbrev pub decreases-loop-next : goal.decreases-loop-next
decreases-loop-next l = length l.rest
