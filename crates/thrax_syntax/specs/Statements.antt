-- The statements of a grammar file over lexemes, by cases.
use Rattle.std.specs.Prelude.{ℕ, true, false, List, [], ◌∷◌}
use Rattle.thrax_lexer.specs.Lexemes.{Lex, word, keyword, quoted, symbol}
use Rattle.text_forms.specs.Steps.{Many}
use Rattle.thrax_lexer.specs.declared.bytes.Symbol.TheVariants.{Equals, Semicolon, Comma, OpenBrace, CloseBrace, OpenBracket, CloseBracket}
use Rattle.thrax_lexer.specs.declared.lexemes.Keyword.TheVariants.{Export, Import, As, Func, Return}
use Rattle.thrax_syntax.specs.Grammar.{Spells, expr}
use Rattle.thrax_syntax.specs.Trees.{TreeTerm, LocalTerm, StatementTerm, import_of, define, func}

-- a further parameter: "," word
pub data NextParam : List Lex → List ℕ → List Lex → Type 0 where
  next_param : {a : List Lex} {x : List ℕ} → NextParam (symbol Comma ∷ word x ∷ a) x a

-- [word ("," word)*] "]"
pub data Params : List Lex → List (List ℕ) → List Lex → Type 0 where
  no_params : {a : List Lex} → Params (symbol CloseBracket ∷ a) [] a
  some_params : {a b : List Lex} {x : List ℕ} {xs : List (List ℕ)} → Many NextParam a xs (symbol CloseBracket ∷ b) → Params (word x ∷ a) (x ∷ xs) b

-- word "=" expr ";"
pub data Defined : List Lex → LocalTerm → List Lex → Type 0 where
  defined : {a b : List Lex} {x : List ℕ} {t : TreeTerm} → Spells expr a t (symbol Semicolon ∷ b) → Defined (word x ∷ symbol Equals ∷ a) (record { name = x; value = t }) b

-- "{" (word "=" expr ";")* "return"
pub data Locals : List Lex → List LocalTerm → List Lex → Type 0 where
  braced : {a b : List Lex} {ls : List LocalTerm} → Many Defined a ls (keyword Return ∷ b) → Locals (symbol OpenBrace ∷ a) ls b

-- what a function says of its parameters
pub record BodyTerm : Type 0 where
  pub locals : List LocalTerm
  pub result : TreeTerm

-- locals expr ";" "}"
pub data Body : List Lex → BodyTerm → List Lex → Type 0 where
  body : {a b c : List Lex} {ls : List LocalTerm} {t : TreeTerm} → Locals a ls b → Spells expr b t (symbol Semicolon ∷ symbol CloseBrace ∷ c) → Body a (record { locals = ls; result = t }) c

-- word "[" params body
pub data Function : List Lex → StatementTerm → List Lex → Type 0 where
  function : {a b c : List Lex} {x : List ℕ} {params : List (List ℕ)} {v : BodyTerm} → Params a params b → Body b v c → Function (word x ∷ symbol OpenBracket ∷ a) (func x params v.locals v.result) c

-- Stated a s c: at the front of a lies the statement s, and c comes after it
pub data Stated : List Lex → StatementTerm → List Lex → Type 0 where
  import_is : {a : List Lex} {file alias : List ℕ} → Stated (keyword Import ∷ quoted file ∷ keyword As ∷ word alias ∷ symbol Semicolon ∷ a) (import_of file alias) a
  define_is : {a b : List Lex} {l : LocalTerm} → Defined a l b → Stated a (define false l.name l.value) b
  export_is : {a b : List Lex} {l : LocalTerm} → Defined a l b → Stated (keyword Export ∷ a) (define true l.name l.value) b
  function_is : {a b : List Lex} {s : StatementTerm} → Function a s b → Stated (keyword Func ∷ a) s b
  export_function_is : {a b : List Lex} {s : StatementTerm} → Function a s b → Stated (keyword Export ∷ keyword Func ∷ a) s b
