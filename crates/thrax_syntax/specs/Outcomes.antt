-- What the parts of the reader answer: what was read is the one that there is, or there is none, or memory ran out.
use Rattle.std.specs.Prelude.{◌≡◌, ◌≤◌, ℕ, Bool, true, false, List, [], ◌∷◌, map, Result, Ok, Err}
use Rattle.text_forms.specs.Answers.{Takes}
use Rattle.thrax_lexer.specs.Lexemes.{Lex, word, keyword, number, weight, string, quoted, symbol, lex_of}
use Rattle.thrax_lexer.specs.declared.bytes.Symbol.{Symbol}
use Rattle.thrax_lexer.specs.declared.bytes.Symbol.TheVariants.{Equals, Semicolon, Comma, Bar, Star, Plus, Question, OpenBrace, CloseBrace, Minus, Colon, At, OpenParen, CloseParen, OpenBracket, CloseBracket, Dot}
use Rattle.std.specs.Borrow.{Bor}
use Rattle.thrax_lexer.specs.declared.lexemes.Lexeme.{Lexeme}
use Rattle.thrax_syntax.specs.Trees.{TreeTerm, tree_term}
use Rattle.thrax_syntax.specs.declared.tree.Tree.{Tree}
use Rattle.thrax_syntax.specs.declared.operators.Operator.{Operator}
use Rattle.thrax_syntax.specs.declared.operators.Operator.TheVariants.{Composition, Crossing, Difference}
use Rattle.thrax_syntax.specs.declared.stop.Stop.{Stop}
use Rattle.thrax_syntax.specs.declared.stop.Stop.TheVariants.{Syntax, Memory}

-- an operator's operands hold together more than the operator does
abbrev pub level : Operator → ℕ
level Composition = 1
level Crossing = 2
level Difference = 3

-- how tightly a symbol holds to what is before it
abbrev pub holds : Symbol → ℕ
holds Bar = 1
holds At = 2
holds Colon = 3
holds Minus = 4
holds OpenParen = 6
holds Star = 7
holds Plus = 7
holds Question = 7
holds OpenBrace = 7
holds OpenBracket = 8
holds Dot = 9
holds Equals = 0
holds Semicolon = 0
holds Comma = 0
holds CloseBrace = 0
holds CloseParen = 0
holds CloseBracket = 0

abbrev pub binds : Lex → ℕ
binds (word x) = 6
binds (keyword k) = 0
binds (number n) = 0
binds (weight w) = 5
binds (string x) = 6
binds (quoted x) = 0
binds (symbol s) = holds s

-- what comes next is no more of a part
abbrev pub Ends : ℕ → List Lex → Type 0
Ends k [] = Unit {0}
Ends k (x ∷ xs) = binds x ≤ k

-- an atom begins here
abbrev pub begins : List Lex → Bool
begins (word x ∷ xs) = true
begins (string x ∷ xs) = true
begins (symbol OpenParen ∷ xs) = true
begins xs = false

-- P has the tree t before rest, and nothing else before an end of its part
pub record Reads (k : ℕ) (P : TreeTerm → List Lex → Type 0) (t : TreeTerm) (rest : List Lex) : Type 0 where
  pub found : P t rest
  pub only : (u : TreeTerm) (d : List Lex) → P u d → Ends k d → (u ≡ t) × (d ≡ rest)

abbrev pub Fails : ℕ → (TreeTerm → List Lex → Type 0) → Stop → Type 0
Fails k P Memory = Unit {0}
Fails k P Syntax = (u : TreeTerm) (d : List Lex) → P u d → Ends k d → ⊥

abbrev pub Answers : ℕ → (TreeTerm → List Lex → Type 0) → Result (Tree × Bor (List Lexeme)) Stop → Type 0
Answers k P (Ok x) = Reads k P (tree_term x.0) (map lex_of x.1.now)
Answers k P (Err e) = Fails k P e

-- the same, where P has one way by itself
abbrev pub Misses : {T R : Type 0} → (T → R → Type 0) → Stop → Type 0
Misses P Memory = Unit {0}
Misses {T} {R} P Syntax = (u : T) (d : R) → P u d → ⊥

abbrev pub Gives : {X T R : Type 0} → (X → T) → (X → R) → (T → R → Type 0) → Result X Stop → Type 0
Gives value rest P (Ok x) = Takes P (value x) (rest x)
Gives value rest P (Err e) = Misses P e
