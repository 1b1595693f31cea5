-- The grammar of expressions over lexemes, by cases.
use Rattle.std.specs.Prelude.{ℕ, ◌≡◌, ◌≤◌, List, [], ◌∷◌, ◌++◌}
use Rattle.thrax_lexer.specs.Lexemes.{Lex, word, number, weight, string, quoted as between_quotes, symbol}
use Rattle.thrax_lexer.specs.Strings.{Labels}
use Rattle.thrax_lexer.specs.declared.bytes.Symbol.{Symbol}
use Rattle.thrax_lexer.specs.declared.bytes.Symbol.TheVariants.{Comma, Bar, Star, Plus, Question, OpenBrace, CloseBrace, Minus, Colon, At, OpenParen, CloseParen, OpenBracket, CloseBracket, Dot}
use Rattle.thrax_syntax.specs.Trees.{TreeTerm, text, quoted, use_of, member, call, call_member, union, concat, cross, compose, minus, weighted, star, plus, maybe, times, no_terms, terms}
use Rattle.thrax_syntax.specs.declared.operators.Operator.{Operator}
use Rattle.thrax_syntax.specs.declared.operators.Operator.TheVariants.{Composition, Crossing, Difference}
use Rattle.thrax_syntax.specs.declared.operators.Repeat.{Repeat}
use Rattle.thrax_syntax.specs.declared.operators.Repeat.TheVariants.{AnyNumber, OneOrMore, AtMostOne, Between}
use Rattle.thrax_syntax.specs.declared.operators.Callee.{Callee}
use Rattle.thrax_syntax.specs.declared.operators.Callee.TheVariants.{Own, Imported}

-- a chain of one member is the member itself
abbrev pub union_of : List TreeTerm → TreeTerm
union_of [] = union no_terms
union_of (t ∷ []) = t
union_of (t ∷ u ∷ ts) = union (terms (t ∷ u ∷ ts))

abbrev pub concat_of : List TreeTerm → TreeTerm
concat_of [] = concat no_terms
concat_of (t ∷ []) = t
concat_of (t ∷ u ∷ ts) = concat (terms (t ∷ u ∷ ts))

-- the symbol of an operator between two operands
abbrev pub sign : Operator → Symbol
sign Composition = At
sign Crossing = Colon
sign Difference = Minus

abbrev pub join : Operator → TreeTerm → TreeTerm → TreeTerm
join Composition t u = compose t u
join Crossing t u = cross t u
join Difference t u = minus t u

abbrev pub repeated : Repeat → TreeTerm → TreeTerm
repeated AnyNumber t = star t
repeated OneOrMore t = plus t
repeated AtMostOne t = maybe t
repeated (Between m n) t = times t m n

-- a name without arguments, and with them
abbrev pub used : Callee → TreeTerm
used (Own name) = use_of name
used (Imported alias name) = member alias name

abbrev pub called : Callee → List TreeTerm → TreeTerm
called (Own name) ts = call name (terms ts)
called (Imported alias name) ts = call_member alias name (terms ts)

-- RepeatAt a r c: at the front of a stands the mark of the repetition r, and c comes after it
pub data RepeatAt : List Lex → Repeat → List Lex → Type 0 where
  star_mark : {a : List Lex} → RepeatAt (symbol Star ∷ a) AnyNumber a
  plus_mark : {a : List Lex} → RepeatAt (symbol Plus ∷ a) OneOrMore a
  question_mark : {a : List Lex} → RepeatAt (symbol Question ∷ a) AtMostOne a
  braces : {a : List Lex} {m n : ℕ} → m ≤ n → RepeatAt (symbol OpenBrace ∷ number m ∷ symbol Comma ∷ number n ∷ symbol CloseBrace ∷ a) (Between m n) a

-- the parts of the grammar; some stand for what comes after the members that they have
pub data Part : Type 0 where
  expr : Part
  bars : List TreeTerm → Part
  joined : Operator → Part
  tail : Operator → TreeTerm → Part
  heavy : Part
  weights : TreeTerm → Part
  cat : Part
  members : List TreeTerm → Part
  closed : Part
  marks : TreeTerm → Part
  atom : Part
  dotted : List ℕ → Part
  named : Callee → Part
  arguments : Callee → Part
  commas : Callee → List TreeTerm → Part
  argument : Part

-- what stands on both sides of an operator: '@' is the loosest, then ':', then '-'
abbrev pub operand : Operator → Part
operand Composition = joined Crossing
operand Crossing = joined Difference
operand Difference = heavy

-- Spells part a t c: the front of a before c is that part of the grammar, and stands for the tree t
pub data Spells : Part → List Lex → TreeTerm → List Lex → Type 0 where
  -- expr: comp ("|" comp)*
  expr_is : {a b c : List Lex} {t u : TreeTerm} → Spells (joined Composition) a t b → Spells (bars (t ∷ [])) b u c → Spells expr a u c
  bars_end : {a : List Lex} {ts : List TreeTerm} → Spells (bars ts) a (union_of ts) a
  bars_more : {b c d : List Lex} {t u : TreeTerm} {ts : List TreeTerm} → Spells (joined Composition) b t c → Spells (bars (ts ++ t ∷ [])) c u d → Spells (bars ts) (symbol Bar ∷ b) u d
  -- comp: crossed ("@" crossed)*, crossed: less (":" less)*, less: heavy ("-" heavy)*
  joined_is : {op : Operator} {a b c : List Lex} {t u : TreeTerm} → Spells (operand op) a t b → Spells (tail op t) b u c → Spells (joined op) a u c
  tail_end : {op : Operator} {a : List Lex} {t : TreeTerm} → Spells (tail op t) a t a
  tail_more : {op : Operator} {s : Symbol} {b c d : List Lex} {t u v : TreeTerm} → s ≡ sign op → Spells (operand op) b u c → Spells (tail op (join op t u)) c v d → Spells (tail op t) (symbol s ∷ b) v d
  -- heavy: cat weight*
  heavy_is : {a b c : List Lex} {t u : TreeTerm} → Spells cat a t b → Spells (weights t) b u c → Spells heavy a u c
  weights_end : {a : List Lex} {t : TreeTerm} → Spells (weights t) a t a
  weights_more : {w : ℕ} {b c : List Lex} {t u : TreeTerm} → Spells (weights (weighted t w)) b u c → Spells (weights t) (weight w ∷ b) u c
  -- cat: closed closed*
  cat_is : {a b c : List Lex} {t u : TreeTerm} → Spells closed a t b → Spells (members (t ∷ [])) b u c → Spells cat a u c
  members_end : {a : List Lex} {ts : List TreeTerm} → Spells (members ts) a (concat_of ts) a
  members_more : {b c d : List Lex} {t u : TreeTerm} {ts : List TreeTerm} → Spells closed b t c → Spells (members (ts ++ t ∷ [])) c u d → Spells (members ts) b u d
  -- closed: atom ("*" | "+" | "?" | "{" number "," number "}")*
  closed_is : {a b c : List Lex} {t u : TreeTerm} → Spells atom a t b → Spells (marks t) b u c → Spells closed a u c
  marks_end : {a : List Lex} {t : TreeTerm} → Spells (marks t) a t a
  marks_more : {b c d : List Lex} {r : Repeat} {t u : TreeTerm} → RepeatAt b r c → Spells (marks (repeated r t)) c u d → Spells (marks t) b u d
  -- atom: string | "(" expr ")" | word ["." word] ["[" [argument ("," argument)*] "]"]
  atom_text : {a : List Lex} {x labels : List ℕ} → Labels x labels → Spells atom (string x ∷ a) (text labels) a
  atom_group : {a b : List Lex} {t : TreeTerm} → Spells expr a t (symbol CloseParen ∷ b) → Spells atom (symbol OpenParen ∷ a) t b
  atom_word : {a b : List Lex} {x : List ℕ} {t : TreeTerm} → Spells (dotted x) a t b → Spells atom (word x ∷ a) t b
  dotted_own : {a b : List Lex} {x : List ℕ} {t : TreeTerm} → Spells (named (Own x)) a t b → Spells (dotted x) a t b
  dotted_imported : {a b : List Lex} {x y : List ℕ} {t : TreeTerm} → Spells (named (Imported x y)) a t b → Spells (dotted x) (symbol Dot ∷ word y ∷ a) t b
  named_alone : {f : Callee} {a : List Lex} → Spells (named f) a (used f) a
  named_called : {f : Callee} {a b : List Lex} {t : TreeTerm} → Spells (arguments f) a t b → Spells (named f) (symbol OpenBracket ∷ a) t b
  arguments_none : {f : Callee} {a : List Lex} → Spells (arguments f) (symbol CloseBracket ∷ a) (called f []) a
  arguments_some : {f : Callee} {a b c : List Lex} {t u : TreeTerm} → Spells argument a t b → Spells (commas f (t ∷ [])) b u c → Spells (arguments f) a u c
  commas_end : {f : Callee} {a : List Lex} {ts : List TreeTerm} → Spells (commas f ts) (symbol CloseBracket ∷ a) (called f ts) a
  commas_more : {f : Callee} {b c d : List Lex} {t u : TreeTerm} {ts : List TreeTerm} → Spells argument b t c → Spells (commas f (ts ++ t ∷ [])) c u d → Spells (commas f ts) (symbol Comma ∷ b) u d
  -- argument: expr | quoted
  argument_expr : {a b : List Lex} {t : TreeTerm} → Spells expr a t b → Spells argument a t b
  argument_quoted : {a : List Lex} {x : List ℕ} → Spells argument (between_quotes x ∷ a) (quoted x) a
