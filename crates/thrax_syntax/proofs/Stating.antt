-- How statements go on.
use Rattle.std.proofs.Common.{◌≡◌, ◌∙◌, sym, ap, subst, refl, ℕ, List, [], ◌∷◌, Bool, true, false}
use Rattle.text_forms.specs.Answers.{Takes}
use Rattle.thrax_lexer.specs.Lexemes.{Lex, word, keyword, quoted, symbol}
use Rattle.text_forms.specs.Steps.{Many, Longest}
use Rattle.thrax_lexer.specs.declared.bytes.Symbol.TheVariants.{Equals, Semicolon, Comma, OpenBrace, CloseBrace, OpenBracket, CloseBracket}
use Rattle.thrax_lexer.specs.declared.lexemes.Keyword.TheVariants.{Export, Import, As, Func, Return}
use Rattle.text_forms.proofs.Chains.{ended_by}
use Rattle.thrax_syntax.specs.Grammar.{Spells, expr}
use Rattle.thrax_syntax.specs.Outcomes.{Misses}
use Rattle.thrax_syntax.specs.Statements.{NextParam, next_param, Params, no_params, some_params, Defined, defined, Locals, braced, BodyTerm, Body, body, Function, function, Stated, import_is, define_is, export_is, function_is, export_function_is}
use Rattle.thrax_syntax.specs.Trees.{TreeTerm, LocalTerm, StatementTerm, import_of, define, func}
use Rattle.thrax_syntax.specs.declared.stop.Stop.TheVariants.{Syntax}
use Rattle.text_forms.proofs.Taking.{Then, Made, Same}

-- what parts are made into
abbrev pub local_of : List ℕ → TreeTerm → LocalTerm
local_of x t = record { name = x; value = t }

abbrev pub body_of : List LocalTerm → TreeTerm → BodyTerm
body_of ls t = record { locals = ls; result = t }

abbrev pub func_of : List ℕ → List (List ℕ) → BodyTerm → StatementTerm
func_of x ps v = func x ps v.locals v.result

abbrev pub defined_as : Bool → LocalTerm → StatementTerm
defined_as export l = define export l.name l.value

-- definitions
defined_split : {a c : List Lex} {x : List ℕ} {l : LocalTerm} → Defined (word x ∷ symbol Equals ∷ a) l c → (t : TreeTerm) × Spells expr a t (symbol Semicolon ∷ c) × (l ≡ record { name = x; value = t })
defined_split (defined {t} p) = (t, p, refl)

pub defined_made : (a b : List Lex) (x : List ℕ) → b ≡ word x ∷ symbol Equals ∷ a → Made (Defined b) (λ t c. Spells expr a t (symbol Semicolon ∷ c)) (local_of x)
defined_made a b x h = subst (λ v. Made (Defined v) (λ t c. Spells expr a t (symbol Semicolon ∷ c)) (local_of x)) (sym h) (record { build = λ t c q. defined q; split = λ l c p. defined_split p })

defined_named : {b c : List Lex} {l : LocalTerm} → ((x : List ℕ) (a : List Lex) → b ≡ word x ∷ symbol Equals ∷ a → ⊥) → Defined b l c → ⊥
defined_named n (defined {a} {x} p) = n x a refl

pub defined_misses : (b : List Lex) → ((x : List ℕ) (a : List Lex) → b ≡ word x ∷ symbol Equals ∷ a → ⊥) → Misses (Defined b) Syntax
defined_misses b n = λ l c p. defined_named n p

-- parameters
pub param_takes : (a b : List Lex) (x : List ℕ) → b ≡ symbol Comma ∷ word x ∷ a → Takes (NextParam b) x a
param_takes a b x h = subst (λ v. Takes (NextParam v) x a) (sym h) (record { found = next_param; only = λ u c p. param_only p })
  where
    param_only : {c : List Lex} {u : List ℕ} → NextParam (symbol Comma ∷ word x ∷ a) u c → (u ≡ x) × (c ≡ a)
    param_only next_param = (refl, refl)

param_begins : {b c : List Lex} {u : List ℕ} → ((x : List ℕ) (a : List Lex) → b ≡ symbol Comma ∷ word x ∷ a → ⊥) → NextParam b u c → ⊥
param_begins n (next_param {a} {x}) = n x a refl

pub no_param : (b : List Lex) → ((x : List ℕ) (a : List Lex) → b ≡ symbol Comma ∷ word x ∷ a → ⊥) → (u : List ℕ) (c : List Lex) → NextParam b u c → ⊥
no_param b n u c p = param_begins n p

bracket_no_param : {a c : List Lex} {u : List ℕ} → NextParam (symbol CloseBracket ∷ a) u c → ⊥
bracket_no_param p = elim p [ ]

empty_only : {a c : List Lex} {xs : List (List ℕ)} → Params (symbol CloseBracket ∷ a) xs c → (xs ≡ []) × (c ≡ a)
empty_only no_params = (refl, refl)

pub empty_params : (a b : List Lex) (xs : List (List ℕ)) → b ≡ symbol CloseBracket ∷ a → xs ≡ [] → Takes (Params b) xs a
empty_params a b xs h g = subst (λ v. Takes (Params v) xs a) (sym h) (subst (λ v. Takes (Params (symbol CloseBracket ∷ a)) v a) (sym g) (record { found = no_params; only = λ u c p. empty_only p }))

params_begin : {b c : List Lex} {xs : List (List ℕ)} → ((a : List Lex) → b ≡ symbol CloseBracket ∷ a → ⊥) → ((x : List ℕ) (a : List Lex) → b ≡ word x ∷ a → ⊥) → Params b xs c → ⊥
params_begin n m (no_params {a}) = n a refl
params_begin n m (some_params {a} {x} p) = m x a refl

pub params_miss : (b : List Lex) → ((a : List Lex) → b ≡ symbol CloseBracket ∷ a → ⊥) → ((x : List ℕ) (a : List Lex) → b ≡ word x ∷ a → ⊥) → Misses (Params b) Syntax
params_miss b n m = λ xs c p. params_begin n m p

params_only : {a c rest after : List Lex} {x : List ℕ} {us : List (List ℕ)} (xs : List (List ℕ)) → Longest NextParam a xs rest → rest ≡ symbol CloseBracket ∷ after → Params (word x ∷ a) us c → (us ≡ x ∷ xs) × (c ≡ after)
params_only {a} {rest} {after} {x} xs l h (some_params {b = c} {xs = ys} p) =
    let m = ended_by NextParam a xs ys rest (symbol CloseBracket ∷ c) (λ u d q. bracket_no_param q) l p in
    let e : symbol CloseBracket ∷ c ≡ symbol CloseBracket ∷ after = m.1 ∙ h in
    (ap (λ v. x ∷ v) m.0, cc)

pub params_take : (b a rest after : List Lex) (x : List ℕ) (xs us : List (List ℕ)) → b ≡ word x ∷ a → Longest NextParam a xs rest → rest ≡ symbol CloseBracket ∷ after → us ≡ x ∷ xs → Takes (Params b) us after
params_take b a rest after x xs us k l h g = subst (λ v. Takes (Params v) us after) (sym k) (subst (λ v. Takes (Params (word x ∷ a)) v after) (sym g) (record { found = some_params (subst (Many NextParam a xs) h l.list); only = λ u c p. params_only xs l h p }))

params_none : {a c rest : List Lex} {x : List ℕ} {us : List (List ℕ)} (xs : List (List ℕ)) → Longest NextParam a xs rest → ((after : List Lex) → rest ≡ symbol CloseBracket ∷ after → ⊥) → Params (word x ∷ a) us c → ⊥
params_none {a} {rest} xs l n (some_params {b = c} {xs = ys} p) =
    n c (sym (ended_by NextParam a xs ys rest (symbol CloseBracket ∷ c) (λ u d q. bracket_no_param q) l p).1)

pub params_stuck : (b a rest : List Lex) (x : List ℕ) (xs : List (List ℕ)) → b ≡ word x ∷ a → Longest NextParam a xs rest → ((after : List Lex) → rest ≡ symbol CloseBracket ∷ after → ⊥) → Misses (Params b) Syntax
params_stuck b a rest x xs k l n = λ us c p. params_none xs l n (subst (λ v. Params v us c) k p)

-- local definitions
return_no_local : {a c : List Lex} {l : LocalTerm} → Defined (keyword Return ∷ a) l c → ⊥
return_no_local p = elim p [ ]

locals_only : {a c rest after : List Lex} {us : List LocalTerm} (ls : List LocalTerm) → Longest Defined a ls rest → rest ≡ keyword Return ∷ after → Locals (symbol OpenBrace ∷ a) us c → (us ≡ ls) × (c ≡ after)
locals_only {a} {rest} {after} ls l h (braced {b = c} {ls = us} p) =
    let m = ended_by Defined a ls us rest (keyword Return ∷ c) (λ u d q. return_no_local q) l p in
    let e : keyword Return ∷ c ≡ keyword Return ∷ after = m.1 ∙ h in
    (m.0, cc)

pub locals_take : (b a rest after : List Lex) (ls : List LocalTerm) → b ≡ symbol OpenBrace ∷ a → Longest Defined a ls rest → rest ≡ keyword Return ∷ after → Takes (Locals b) ls after
locals_take b a rest after ls k l h = subst (λ v. Takes (Locals v) ls after) (sym k) (record { found = braced (subst (Many Defined a ls) h l.list); only = λ u c p. locals_only ls l h p })

locals_none : {a c rest : List Lex} {us : List LocalTerm} (ls : List LocalTerm) → Longest Defined a ls rest → ((after : List Lex) → rest ≡ keyword Return ∷ after → ⊥) → Locals (symbol OpenBrace ∷ a) us c → ⊥
locals_none {a} {rest} ls l n (braced {b = c} {ls = us} p) = n c (sym (ended_by Defined a ls us rest (keyword Return ∷ c) (λ u d q. return_no_local q) l p).1)

pub locals_stuck : (b a rest : List Lex) (ls : List LocalTerm) → b ≡ symbol OpenBrace ∷ a → Longest Defined a ls rest → ((after : List Lex) → rest ≡ keyword Return ∷ after → ⊥) → Misses (Locals b) Syntax
locals_stuck b a rest ls k l n = λ us c p. locals_none ls l n (subst (λ v. Locals v us c) k p)

locals_begin : {b c : List Lex} {us : List LocalTerm} → ((a : List Lex) → b ≡ symbol OpenBrace ∷ a → ⊥) → Locals b us c → ⊥
locals_begin n (braced {a} p) = n a refl

pub locals_miss : (b : List Lex) → ((a : List Lex) → b ≡ symbol OpenBrace ∷ a → ⊥) → Misses (Locals b) Syntax
locals_miss b n = λ us c p. locals_begin n p

-- functions
body_split : {a c : List Lex} {v : BodyTerm} → Body a v c → (ls : List LocalTerm) × (b : List Lex) × (t : TreeTerm) × Locals a ls b × Spells expr b t (symbol Semicolon ∷ symbol CloseBrace ∷ c) × (v ≡ record { locals = ls; result = t })
body_split (body {b} {ls} {t} p q) = (ls, b, t, p, q, refl)

pub body_then : (a : List Lex) → Then (Body a) (Locals a) (λ b t c. Spells expr b t (symbol Semicolon ∷ symbol CloseBrace ∷ c)) body_of
body_then a = record { build = λ ls b t c p q. body p q; split = λ v c p. body_split p }

function_split : {a c : List Lex} {x : List ℕ} {s : StatementTerm} → Function (word x ∷ symbol OpenBracket ∷ a) s c → (ps : List (List ℕ)) × (b : List Lex) × (v : BodyTerm) × Params a ps b × Body b v c × (s ≡ func x ps v.locals v.result)
function_split (function {b} {params} {v} p q) = (params, b, v, p, q, refl)

pub function_then : (a b : List Lex) (x : List ℕ) → b ≡ word x ∷ symbol OpenBracket ∷ a → Then (Function b) (Params a) Body (func_of x)
function_then a b x h = subst (λ v. Then (Function v) (Params a) Body (func_of x)) (sym h) (record { build = λ ps d v c p q. function p q; split = λ s c p. function_split p })

function_named : {b c : List Lex} {s : StatementTerm} → ((x : List ℕ) (a : List Lex) → b ≡ word x ∷ symbol OpenBracket ∷ a → ⊥) → Function b s c → ⊥
function_named n (function {a} {x} p q) = n x a refl

pub function_misses : (b : List Lex) → ((x : List ℕ) (a : List Lex) → b ≡ word x ∷ symbol OpenBracket ∷ a → ⊥) → Misses (Function b) Syntax
function_misses b n = λ s c p. function_named n p

-- statements
import_only : {a c : List Lex} {file alias : List ℕ} {s : StatementTerm} → Stated (keyword Import ∷ quoted file ∷ keyword As ∷ word alias ∷ symbol Semicolon ∷ a) s c → (s ≡ import_of file alias) × (c ≡ a)
import_only import_is = (refl, refl)
import_only (define_is p) = elim p [ ]

pub import_takes : (a b : List Lex) (file alias : List ℕ) → b ≡ quoted file ∷ keyword As ∷ word alias ∷ symbol Semicolon ∷ a → Takes (Stated (keyword Import ∷ b)) (import_of file alias) a
import_takes a b file alias h = subst (λ v. Takes (Stated (keyword Import ∷ v)) (import_of file alias) a) (sym h) (record { found = import_is; only = λ s c p. import_only p })

import_begins : {b c : List Lex} {s : StatementTerm} → ((file alias : List ℕ) (a : List Lex) → b ≡ quoted file ∷ keyword As ∷ word alias ∷ symbol Semicolon ∷ a → ⊥) → Stated (keyword Import ∷ b) s c → ⊥
import_begins n (import_is {a} {file} {alias}) = n file alias a refl
import_begins n (define_is p) = elim p [ ]

pub import_misses : (b : List Lex) → ((file alias : List ℕ) (a : List Lex) → b ≡ quoted file ∷ keyword As ∷ word alias ∷ symbol Semicolon ∷ a → ⊥) → Misses (Stated (keyword Import ∷ b)) Syntax
import_misses b n = λ s c p. import_begins n p

func_split : {a c : List Lex} {s : StatementTerm} → Stated (keyword Func ∷ a) s c → Function a s c
func_split (function_is p) = p
func_split (define_is p) = elim p [ ]

pub func_same : (a b : List Lex) → b ≡ keyword Func ∷ a → Same (Stated b) (Function a)
func_same a b h = subst (λ v. Same (Stated v) (Function a)) (sym h) (record { build = λ s c q. function_is q; split = λ s c p. func_split p })

export_func_split : {a c : List Lex} {s : StatementTerm} → Stated (keyword Export ∷ keyword Func ∷ a) s c → Function a s c
export_func_split (export_function_is p) = p
export_func_split (define_is p) = elim p [ ]
export_func_split (export_is p) = elim p [ ]

pub export_func_same : (a b : List Lex) → b ≡ keyword Func ∷ a → Same (Stated (keyword Export ∷ b)) (Function a)
export_func_same a b h = subst (λ v. Same (Stated (keyword Export ∷ v)) (Function a)) (sym h) (record { build = λ s c q. export_function_is q; split = λ s c p. export_func_split p })

export_split : {a c : List Lex} {s : StatementTerm} → ((b : List Lex) → a ≡ keyword Func ∷ b → ⊥) → Stated (keyword Export ∷ a) s c → (l : LocalTerm) × Defined a l c × (s ≡ define true l.name l.value)
export_split n (export_is {l} p) = (l, p, refl)
export_split n (export_function_is {a} p) = absurd (n a refl)
export_split n (define_is p) = elim p [ ]

pub export_made : (a : List Lex) → ((b : List Lex) → a ≡ keyword Func ∷ b → ⊥) → Made (Stated (keyword Export ∷ a)) (Defined a) (defined_as true)
export_made a n = record { build = λ l c q. export_is q; split = λ s c p. export_split n p }

define_split : {a c : List Lex} {s : StatementTerm} → ((b : List Lex) → a ≡ keyword Import ∷ b → ⊥) → ((b : List Lex) → a ≡ keyword Func ∷ b → ⊥) → ((b : List Lex) → a ≡ keyword Export ∷ b → ⊥) → Stated a s c → (l : LocalTerm) × Defined a l c × (s ≡ define false l.name l.value)
define_split n m k (import_is {a} {file} {alias}) = absurd (n (quoted file ∷ keyword As ∷ word alias ∷ symbol Semicolon ∷ a) refl)
define_split n m k (define_is {l} p) = (l, p, refl)
define_split n m k (export_is {a} p) = absurd (k a refl)
define_split n m k (function_is {a} p) = absurd (m a refl)
define_split n m k (export_function_is {a} p) = absurd (k (keyword Func ∷ a) refl)

pub define_made : (a : List Lex) → ((b : List Lex) → a ≡ keyword Import ∷ b → ⊥) → ((b : List Lex) → a ≡ keyword Func ∷ b → ⊥) → ((b : List Lex) → a ≡ keyword Export ∷ b → ⊥) → Made (Stated a) (Defined a) (defined_as false)
define_made a n m k = record { build = λ l c q. define_is q; split = λ s c p. define_split n m k p }
