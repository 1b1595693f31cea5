use Rattle.std.proofs.Common.{◌≡◌, ◌<◌, ◌≤◌, ◌+◌, ◌-◌, ◌*◌, ◌∷◌, [], map, length}
use Rattle.thrax_lexer.specs.Lexemes.{lex_of, symbol}
use Rattle.thrax_lexer.specs.declared.bytes.Symbol.TheVariants.{Bar}
use Rattle.thrax_syntax.specs.Grammar.{Spells, bars, joined, tail, heavy, weights, members, closed, marks, arguments, commas}
use Rattle.thrax_syntax.specs.Outcomes.{level}
use Rattle.thrax_syntax.specs.Trees.{tree_term}
use Rattle.thrax_syntax.proofs.Keeping.{Keeps}
use Rattle.thrax_syntax.proofs.expressions.+parse.Given as goal

abbrev pub decreases-expression : goal.decreases-expression
decreases-expression l = 32 * length l.lexemes.now + 16

abbrev pub decreases-choice : goal.decreases-choice
decreases-choice l = 32 * length l.lexemes.now + 16

abbrev pub decreases-operation : goal.decreases-operation
decreases-operation l = 32 * length l.lexemes.now + (15 - 2 * level l.operator)

abbrev pub decreases-operand : goal.decreases-operand
decreases-operand l = 32 * length l.lexemes.now + (14 - 2 * level l.operator)

abbrev pub decreases-weighted : goal.decreases-weighted
decreases-weighted l = 32 * length l.lexemes.now + 7

abbrev pub decreases-concatenation : goal.decreases-concatenation
decreases-concatenation l = 32 * length l.lexemes.now + 6

abbrev pub decreases-sequence : goal.decreases-sequence
decreases-sequence l = 32 * length l.lexemes.now + 6

abbrev pub decreases-closure : goal.decreases-closure
decreases-closure l = 32 * length l.lexemes.now + 5

abbrev pub decreases-single : goal.decreases-single
decreases-single l = 32 * length l.lexemes.now + 4

abbrev pub decreases-group : goal.decreases-group
decreases-group l = 32 * length l.lexemes.now + 17

abbrev pub decreases-reference : goal.decreases-reference
decreases-reference l = 32 * length l.lexemes.now + 20

abbrev pub decreases-use_or_call : goal.decreases-use_or_call
decreases-use_or_call l = 32 * length l.lexemes.now + 19

abbrev pub decreases-call : goal.decreases-call
decreases-call l = 32 * length l.lexemes.now + 19

abbrev pub decreases-call_with : goal.decreases-call_with
decreases-call_with l = 32 * length l.lexemes.now + 18

abbrev pub decreases-argument : goal.decreases-argument
decreases-argument l = 32 * length l.lexemes.now + 17

abbrev pub invariant-choice-loop-after : goal.invariant-choice-loop-after
invariant-choice-loop-after l = record {
  shorter : length l.rest < length l.fn.lexemes;
  some : 2 ≤ length l.members.items;
  keeps : Keeps 0 (Spells (bars (tree_term l.fn.first ∷ [])) (symbol Bar ∷ map lex_of l.fn.lexemes)) (Spells (bars (map tree_term l.members.items)) (map lex_of l.rest));
}

abbrev pub decreases-choice-loop-after : goal.decreases-choice-loop-after
decreases-choice-loop-after l = length l.rest

abbrev pub invariant-operation-loop-after : goal.invariant-operation-loop-after
invariant-operation-loop-after l = record {
  shorter : length l.rest < length l.fn.lexemes;
  keeps : Keeps (level l.fn.operator) (Spells (joined l.fn.operator) (map lex_of l.fn.lexemes)) (Spells (tail l.fn.operator (tree_term l.tree)) (map lex_of l.rest));
}

abbrev pub decreases-operation-loop-after : goal.decreases-operation-loop-after
decreases-operation-loop-after l = length l.rest

abbrev pub invariant-weighted-loop-weight : goal.invariant-weighted-loop-weight
invariant-weighted-loop-weight l = record {
  shorter : length l.rest < length l.fn.lexemes;
  keeps : Keeps 4 (Spells heavy (map lex_of l.fn.lexemes)) (Spells (weights (tree_term l.tree)) (map lex_of l.rest));
}

abbrev pub decreases-weighted-loop-weight : goal.decreases-weighted-loop-weight
decreases-weighted-loop-weight l = length l.rest

abbrev pub invariant-sequence-loop-alloc : goal.invariant-sequence-loop-alloc
invariant-sequence-loop-alloc l = record {
  shorter : length l.rest < length l.fn.lexemes;
  some : 2 ≤ length l.members.items;
  keeps : Keeps 5 (Spells (members (tree_term l.fn.first ∷ [])) (map lex_of l.fn.lexemes)) (Spells (members (map tree_term l.members.items)) (map lex_of l.rest));
}

abbrev pub decreases-sequence-loop-alloc : goal.decreases-sequence-loop-alloc
decreases-sequence-loop-alloc l = length l.rest

abbrev pub invariant-closure-loop-repeat : goal.invariant-closure-loop-repeat
invariant-closure-loop-repeat l = record {
  shorter : length l.rest < length l.fn.lexemes;
  keeps : Keeps 6 (Spells closed (map lex_of l.fn.lexemes)) (Spells (marks (tree_term l.tree)) (map lex_of l.rest));
}

abbrev pub decreases-closure-loop-repeat : goal.decreases-closure-loop-repeat
decreases-closure-loop-repeat l = length l.rest

abbrev pub invariant-call_with-loop-after : goal.invariant-call_with-loop-after
invariant-call_with-loop-after l = record {
  shorter : length l.rest < length l.fn.lexemes;
  same : l.callee ≡ l.fn.callee;
  keeps : Keeps 7 (Spells (arguments l.fn.callee) (map lex_of l.fn.lexemes)) (Spells (commas l.fn.callee (map tree_term l.arguments.items)) (map lex_of l.rest));
}

abbrev pub decreases-call_with-loop-after : goal.decreases-call_with-loop-after
decreases-call_with-loop-after l = length l.rest
