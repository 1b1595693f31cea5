-- How the parts of the grammar go on.
use Rattle.std.proofs.Common.{◌≡◌, ◌∙◌, sym, ap, subst, refl, arith, ℕ, ◌+◌, ◌≤◌, List, [], ◌∷◌, ◌++◌, length, map, true, false}
use Rattle.std.proofs.lemmas.List.{map-append, length-append}
use Rattle.text_forms.specs.Answers.{Takes}
use Rattle.thrax_lexer.specs.Lexemes.{Lex, word, keyword, number, weight, string, quoted as between_quotes, symbol}
use Rattle.thrax_lexer.specs.Strings.{Labels}
use Rattle.thrax_lexer.specs.declared.bytes.Symbol.{Symbol}
use Rattle.thrax_lexer.specs.declared.bytes.Symbol.TheVariants.{Equals, Semicolon, Comma, Bar, Star, Plus, Question, OpenBrace, CloseBrace, Minus, Colon, At, OpenParen, CloseParen, OpenBracket, CloseBracket, Dot}
use Rattle.thrax_syntax.specs.Trees.{TreeTerm, text, quoted, union, concat, weighted, terms}
use Rattle.thrax_syntax.specs.Grammar.{Spells, RepeatAt, expr, bars, joined, tail, heavy, weights, cat, members, closed, marks, atom, dotted, named, arguments, commas, argument, operand, sign, join, repeated, used, called, union_of, concat_of}
use Rattle.thrax_syntax.specs.Grammar.{star_mark, plus_mark, question_mark, braces, expr_is, bars_end, bars_more, joined_is, tail_end, tail_more, heavy_is, weights_end, weights_more, cat_is, members_end, members_more, closed_is, marks_end, marks_more, atom_text, atom_group, atom_word, dotted_own, dotted_imported, named_alone, named_called, arguments_none, arguments_some, commas_end, commas_more, argument_expr, argument_quoted}
use Rattle.thrax_syntax.specs.Outcomes.{Ends, Fails, Reads, begins, holds, level}
use Rattle.thrax_syntax.specs.declared.operators.Operator.{Operator}
use Rattle.thrax_syntax.specs.declared.operators.Operator.TheVariants.{Composition, Crossing, Difference}
use Rattle.thrax_syntax.specs.declared.operators.Repeat.{Repeat}
use Rattle.thrax_syntax.specs.declared.operators.Callee.{Callee}
use Rattle.thrax_syntax.specs.declared.operators.Callee.TheVariants.{Own, Imported}
use Rattle.thrax_syntax.specs.declared.stop.Stop.{Stop}
use Rattle.thrax_syntax.specs.declared.stop.Stop.TheVariants.{Syntax}
use Rattle.thrax_syntax.proofs.Keeping.{Keeps, First, keeps_trans, step, step_fails}

ends_more : (k n : ℕ) (d : List Lex) → k ≤ n → Ends k d → Ends n d
ends_more k n [] h e = tt
ends_more k n (x ∷ xs) h e = omega arith

-- choices
bars_ends : {b d : List Lex} {ts : List TreeTerm} {u : TreeTerm} → Spells (bars ts) b u d → Ends 0 d → Ends 1 b
bars_ends {b} bars_end e = ends_more 0 1 b (omega arith) e
bars_ends (bars_more p q) e = omega arith

expr_split : {a d : List Lex} {u : TreeTerm} → Spells expr a u d → Ends 0 d → (t : TreeTerm) × (b : List Lex) × Spells (joined Composition) a t b × Spells (bars (t ∷ [])) b u d × Ends 1 b
expr_split (expr_is {b} {t} p q) e = (t, b, p, q, bars_ends q e)

pub expr_first : (a : List Lex) → First 0 1 (Spells expr a) (Spells (joined Composition) a) (λ t b. Spells (bars (t ∷ [])) b)
expr_first a = record { build = λ t u b d p q. expr_is p q; split = λ u d p e. expr_split p e }

bars_split : {a d : List Lex} {ts : List TreeTerm} {u : TreeTerm} → Spells (bars ts) (symbol Bar ∷ a) u d → Ends 0 d → (t : TreeTerm) × (b : List Lex) × Spells (joined Composition) a t b × Spells (bars (ts ++ t ∷ [])) b u d × Ends 1 b
bars_split bars_end e = absurd (omega (arith, e))
bars_split (bars_more {c} {t} p q) e = (t, c, p, q, bars_ends q e)

pub bars_first : (ts : List TreeTerm) (a : List Lex) → First 0 1 (Spells (bars ts) (symbol Bar ∷ a)) (Spells (joined Composition) a) (λ t b. Spells (bars (ts ++ t ∷ [])) b)
bars_first ts a = record { build = λ t u b d p q. bars_more p q; split = λ u d p e. bars_split p e }

bars_stop : {b d : List Lex} {ts : List TreeTerm} {u : TreeTerm} → ((c : List Lex) → b ≡ symbol Bar ∷ c → ⊥) → Spells (bars ts) b u d → (u ≡ union_of ts) × (d ≡ b)
bars_stop n bars_end = (refl, refl)
bars_stop n (bars_more {b} p q) = absurd (n b refl)

pub bars_done : (ts : List TreeTerm) (b : List Lex) → ((c : List Lex) → b ≡ symbol Bar ∷ c → ⊥) → Reads 0 (Spells (bars ts) b) (union_of ts) b
bars_done ts b n = record { found = bars_end; only = λ u d p e. bars_stop n p }

pub union_many : (ts : List TreeTerm) → 2 ≤ length ts → union_of ts ≡ union (terms ts)
union_many [] h = absurd (omega (arith, h))
union_many (t ∷ []) h = absurd (omega (arith, h))
union_many (t ∷ u ∷ ts) h = refl

-- operators between two operands
sign_level : (op : Operator) → holds (sign op) ≡ level op + 1
sign_level Composition = refl
sign_level Crossing = refl
sign_level Difference = refl

tail_ends : {op : Operator} {b d : List Lex} {t u : TreeTerm} → Spells (tail op t) b u d → Ends (level op) d → Ends (level op + 1) b
tail_ends {op} {b} tail_end e = ends_more (level op) (level op + 1) b (omega arith) e
tail_ends {op} (tail_more {s} h p q) e = let g : holds s ≡ level op + 1 = ap holds h ∙ sign_level op in omega (arith, g)

joined_split : {op : Operator} {a d : List Lex} {u : TreeTerm} → Spells (joined op) a u d → Ends (level op) d → (t : TreeTerm) × (b : List Lex) × Spells (operand op) a t b × Spells (tail op t) b u d × Ends (level op + 1) b
joined_split (joined_is {b} {t} p q) e = (t, b, p, q, tail_ends q e)

pub joined_first : (op : Operator) (a : List Lex) → First (level op) (level op + 1) (Spells (joined op) a) (Spells (operand op) a) (λ t b. Spells (tail op t) b)
joined_first op a = record { build = λ t u b d p q. joined_is p q; split = λ u d p e. joined_split p e }

tail_split : {op : Operator} {s : Symbol} {a d : List Lex} {t v : TreeTerm} → s ≡ sign op → Spells (tail op t) (symbol s ∷ a) v d → Ends (level op) d → (u : TreeTerm) × (b : List Lex) × Spells (operand op) a u b × Spells (tail op (join op t u)) b v d × Ends (level op + 1) b
tail_split {op} {s} h tail_end e = absurd (let g : holds s ≡ level op + 1 = ap holds h ∙ sign_level op in omega (arith, g, e))
tail_split h (tail_more {c} {u} g p q) e = (u, c, p, q, tail_ends q e)

pub tail_first : (op : Operator) (s : Symbol) (t : TreeTerm) (a : List Lex) → s ≡ sign op → First (level op) (level op + 1) (Spells (tail op t) (symbol s ∷ a)) (Spells (operand op) a) (λ u b. Spells (tail op (join op t u)) b)
tail_first op s t a h = record { build = λ u v b d p q. tail_more h p q; split = λ u d p e. tail_split h p e }

tail_stop : {op : Operator} {b d : List Lex} {t u : TreeTerm} → ((c : List Lex) → b ≡ symbol (sign op) ∷ c → ⊥) → Spells (tail op t) b u d → (u ≡ t) × (d ≡ b)
tail_stop n tail_end = (refl, refl)
tail_stop n (tail_more {b} h p q) = absurd (n b (ap (λ v. symbol v ∷ b) h))

pub tail_done : (op : Operator) (s : Symbol) (t : TreeTerm) (b : List Lex) → s ≡ sign op → ((c : List Lex) → b ≡ symbol s ∷ c → ⊥) → Reads (level op) (Spells (tail op t) b) t b
tail_done op s t b h n = record { found = tail_end; only = λ u d p e. tail_stop (λ c g. n c (g ∙ ap (λ v. symbol v ∷ c) (sym h))) p }

-- weights
weights_ends : {b d : List Lex} {t u : TreeTerm} → Spells (weights t) b u d → Ends 4 d → Ends 5 b
weights_ends {b} weights_end e = ends_more 4 5 b (omega arith) e
weights_ends (weights_more q) e = omega arith

heavy_split : {a d : List Lex} {u : TreeTerm} → Spells heavy a u d → Ends 4 d → (t : TreeTerm) × (b : List Lex) × Spells cat a t b × Spells (weights t) b u d × Ends 5 b
heavy_split (heavy_is {b} {t} p q) e = (t, b, p, q, weights_ends q e)

pub heavy_first : (a : List Lex) → First 4 5 (Spells heavy a) (Spells cat a) (λ t b. Spells (weights t) b)
heavy_first a = record { build = λ t u b d p q. heavy_is p q; split = λ u d p e. heavy_split p e }

weights_only : {w : ℕ} {a d : List Lex} {t u : TreeTerm} → Spells (weights t) (weight w ∷ a) u d → Ends 4 d → Spells (weights (weighted t w)) a u d
weights_only weights_end e = absurd (omega (arith, e))
weights_only (weights_more q) e = q

pub weights_keep : (t : TreeTerm) (w : ℕ) (a : List Lex) → Keeps 4 (Spells (weights t) (weight w ∷ a)) (Spells (weights (weighted t w)) a)
weights_keep t w a = record { sound = λ u d q. weights_more q; only = λ u d p e. weights_only p e }

weights_stop : {b d : List Lex} {t u : TreeTerm} → ((w : ℕ) (c : List Lex) → b ≡ weight w ∷ c → ⊥) → Spells (weights t) b u d → (u ≡ t) × (d ≡ b)
weights_stop n weights_end = (refl, refl)
weights_stop n (weights_more {w} {b} q) = absurd (n w b refl)

pub weights_done : (t : TreeTerm) (b : List Lex) → ((w : ℕ) (c : List Lex) → b ≡ weight w ∷ c → ⊥) → Reads 4 (Spells (weights t) b) t b
weights_done t b n = record { found = weights_end; only = λ u d p e. weights_stop n p }

-- where an expression begins
atom_begins : {b c : List Lex} {t : TreeTerm} → Spells atom b t c → begins b ≡ true
atom_begins (atom_text h) = refl
atom_begins (atom_group p) = refl
atom_begins (atom_word p) = refl

closed_begins : {b c : List Lex} {t : TreeTerm} → Spells closed b t c → begins b ≡ true
closed_begins (closed_is p q) = atom_begins p

cat_begins : {b c : List Lex} {t : TreeTerm} → Spells cat b t c → begins b ≡ true
cat_begins (cat_is p q) = closed_begins p

heavy_begins : {b c : List Lex} {t : TreeTerm} → Spells heavy b t c → begins b ≡ true
heavy_begins (heavy_is p q) = cat_begins p

difference_begins : {b c : List Lex} {t : TreeTerm} → Spells (joined Difference) b t c → begins b ≡ true
difference_begins (joined_is p q) = heavy_begins p

crossing_begins : {b c : List Lex} {t : TreeTerm} → Spells (joined Crossing) b t c → begins b ≡ true
crossing_begins (joined_is p q) = difference_begins p

composition_begins : {b c : List Lex} {t : TreeTerm} → Spells (joined Composition) b t c → begins b ≡ true
composition_begins (joined_is p q) = crossing_begins p

expr_begins : {b c : List Lex} {t : TreeTerm} → Spells expr b t c → begins b ≡ true
expr_begins (expr_is p q) = composition_begins p

no_truth : false ≡ true → ⊥
no_truth h = cc

begins_low : (b : List Lex) → begins b ≡ true → Ends 6 b
begins_low [] h = tt
begins_low (word x ∷ b) h = omega arith
begins_low (keyword x ∷ b) h = omega arith
begins_low (number x ∷ b) h = omega arith
begins_low (weight x ∷ b) h = omega arith
begins_low (string x ∷ b) h = omega arith
begins_low (between_quotes x ∷ b) h = omega arith
begins_low (symbol Equals ∷ b) h = omega arith
begins_low (symbol Semicolon ∷ b) h = omega arith
begins_low (symbol Comma ∷ b) h = omega arith
begins_low (symbol Bar ∷ b) h = omega arith
begins_low (symbol Star ∷ b) h = absurd (no_truth h)
begins_low (symbol Plus ∷ b) h = absurd (no_truth h)
begins_low (symbol Question ∷ b) h = absurd (no_truth h)
begins_low (symbol OpenBrace ∷ b) h = absurd (no_truth h)
begins_low (symbol CloseBrace ∷ b) h = omega arith
begins_low (symbol Minus ∷ b) h = omega arith
begins_low (symbol Colon ∷ b) h = omega arith
begins_low (symbol At ∷ b) h = omega arith
begins_low (symbol OpenParen ∷ b) h = omega arith
begins_low (symbol CloseParen ∷ b) h = omega arith
begins_low (symbol OpenBracket ∷ b) h = absurd (no_truth h)
begins_low (symbol CloseBracket ∷ b) h = omega arith
begins_low (symbol Dot ∷ b) h = absurd (no_truth h)

begins_high : (b : List Lex) → begins b ≡ true → Ends 5 b → ⊥
begins_high [] h e = no_truth h
begins_high (word x ∷ b) h e = omega (arith, e)
begins_high (keyword x ∷ b) h e = no_truth h
begins_high (number x ∷ b) h e = no_truth h
begins_high (weight x ∷ b) h e = no_truth h
begins_high (string x ∷ b) h e = omega (arith, e)
begins_high (between_quotes x ∷ b) h e = no_truth h
begins_high (symbol Equals ∷ b) h e = no_truth h
begins_high (symbol Semicolon ∷ b) h e = no_truth h
begins_high (symbol Comma ∷ b) h e = no_truth h
begins_high (symbol Bar ∷ b) h e = no_truth h
begins_high (symbol Star ∷ b) h e = no_truth h
begins_high (symbol Plus ∷ b) h e = no_truth h
begins_high (symbol Question ∷ b) h e = no_truth h
begins_high (symbol OpenBrace ∷ b) h e = no_truth h
begins_high (symbol CloseBrace ∷ b) h e = no_truth h
begins_high (symbol Minus ∷ b) h e = no_truth h
begins_high (symbol Colon ∷ b) h e = no_truth h
begins_high (symbol At ∷ b) h e = no_truth h
begins_high (symbol OpenParen ∷ b) h e = omega (arith, e)
begins_high (symbol CloseParen ∷ b) h e = no_truth h
begins_high (symbol OpenBracket ∷ b) h e = no_truth h
begins_high (symbol CloseBracket ∷ b) h e = no_truth h
begins_high (symbol Dot ∷ b) h e = no_truth h

-- members of a concatenation
members_ends : {b d : List Lex} {ts : List TreeTerm} {u : TreeTerm} → Spells (members ts) b u d → Ends 5 d → Ends 6 b
members_ends {b} members_end e = ends_more 5 6 b (omega arith) e
members_ends {b} (members_more p q) e = begins_low b (closed_begins p)

cat_split : {a d : List Lex} {u : TreeTerm} → Spells cat a u d → Ends 5 d → (t : TreeTerm) × (b : List Lex) × Spells closed a t b × Spells (members (t ∷ [])) b u d × Ends 6 b
cat_split (cat_is {b} {t} p q) e = (t, b, p, q, members_ends q e)

pub cat_first : (a : List Lex) → First 5 6 (Spells cat a) (Spells closed a) (λ t b. Spells (members (t ∷ [])) b)
cat_first a = record { build = λ t u b d p q. cat_is p q; split = λ u d p e. cat_split p e }

members_split : {a d : List Lex} {ts : List TreeTerm} {u : TreeTerm} → begins a ≡ true → Spells (members ts) a u d → Ends 5 d → (t : TreeTerm) × (b : List Lex) × Spells closed a t b × Spells (members (ts ++ t ∷ [])) b u d × Ends 6 b
members_split {a} h members_end e = absurd (begins_high a h e)
members_split h (members_more {c} {t} p q) e = (t, c, p, q, members_ends q e)

pub members_first : (ts : List TreeTerm) (a : List Lex) → begins a ≡ true → First 5 6 (Spells (members ts) a) (Spells closed a) (λ t b. Spells (members (ts ++ t ∷ [])) b)
members_first ts a h = record { build = λ t u b d p q. members_more p q; split = λ u d p e. members_split h p e }

members_stop : {b d : List Lex} {ts : List TreeTerm} {u : TreeTerm} → begins b ≡ false → Spells (members ts) b u d → (u ≡ concat_of ts) × (d ≡ b)
members_stop n members_end = (refl, refl)
members_stop n (members_more p q) = absurd (no_truth (sym n ∙ closed_begins p))

pub members_done : (ts : List TreeTerm) (b : List Lex) → begins b ≡ false → Reads 5 (Spells (members ts) b) (concat_of ts) b
members_done ts b n = record { found = members_end; only = λ u d p e. members_stop n p }

pub concat_many : (ts : List TreeTerm) → 2 ≤ length ts → concat_of ts ≡ concat (terms ts)
concat_many [] h = absurd (omega (arith, h))
concat_many (t ∷ []) h = absurd (omega (arith, h))
concat_many (t ∷ u ∷ ts) h = refl

-- marks of repetition
repeat_ends : {b c : List Lex} {r : Repeat} → RepeatAt b r c → Ends 7 b
repeat_ends star_mark = omega arith
repeat_ends plus_mark = omega arith
repeat_ends question_mark = omega arith
repeat_ends (braces h) = omega arith

repeat_high : {b c : List Lex} {r : Repeat} → RepeatAt b r c → Ends 6 b → ⊥
repeat_high star_mark e = omega (arith, e)
repeat_high plus_mark e = omega (arith, e)
repeat_high question_mark e = omega (arith, e)
repeat_high (braces h) e = omega (arith, e)

marks_ends : {b d : List Lex} {t u : TreeTerm} → Spells (marks t) b u d → Ends 6 d → Ends 7 b
marks_ends {b} marks_end e = ends_more 6 7 b (omega arith) e
marks_ends (marks_more m q) e = repeat_ends m

closed_split : {a d : List Lex} {u : TreeTerm} → Spells closed a u d → Ends 6 d → (t : TreeTerm) × (b : List Lex) × Spells atom a t b × Spells (marks t) b u d × Ends 7 b
closed_split (closed_is {b} {t} p q) e = (t, b, p, q, marks_ends q e)

pub closed_first : (a : List Lex) → First 6 7 (Spells closed a) (Spells atom a) (λ t b. Spells (marks t) b)
closed_first a = record { build = λ t u b d p q. closed_is p q; split = λ u d p e. closed_split p e }

marks_only : {a b d : List Lex} {r : Repeat} {t u : TreeTerm} → RepeatAt b r a → ((s : Repeat) (c : List Lex) → RepeatAt b s c → (s ≡ r) × (c ≡ a)) → Spells (marks t) b u d → Ends 6 d → Spells (marks (repeated r t)) a u d
marks_only m n marks_end e = absurd (repeat_high m e)
marks_only {a} {d} {t} {u} m n (marks_more {c} {r = s} k q) e =
    let h = n s c k in
    subst (λ v. Spells (marks (repeated v t)) a u d) h.0 (subst (λ v. Spells (marks (repeated s t)) v u d) h.1 q)

pub marks_keep : (t : TreeTerm) (r : Repeat) (b a : List Lex) → RepeatAt b r a → ((s : Repeat) (c : List Lex) → RepeatAt b s c → (s ≡ r) × (c ≡ a)) → Keeps 6 (Spells (marks t) b) (Spells (marks (repeated r t)) a)
marks_keep t r b a m n = record { sound = λ u d q. marks_more m q; only = λ u d p e. marks_only m n p e }

marks_stop : {b d : List Lex} {t u : TreeTerm} → ((s : Repeat) (c : List Lex) → RepeatAt b s c → ⊥) → Spells (marks t) b u d → (u ≡ t) × (d ≡ b)
marks_stop n marks_end = (refl, refl)
marks_stop n (marks_more {c} {r} m q) = absurd (n r c m)

pub marks_done : (t : TreeTerm) (b : List Lex) → ((s : Repeat) (c : List Lex) → RepeatAt b s c → ⊥) → Reads 6 (Spells (marks t) b) t b
marks_done t b n = record { found = marks_end; only = λ u d p e. marks_stop n p }

-- atoms
group_only : {a d : List Lex} {u : TreeTerm} → Spells atom (symbol OpenParen ∷ a) u d → Spells expr a u (symbol CloseParen ∷ d)
group_only (atom_group p) = p

pub group_keeps : (a b : List Lex) → b ≡ symbol OpenParen ∷ a → Keeps 7 (Spells atom b) (λ t d. Spells expr a t (symbol CloseParen ∷ d))
group_keeps a b h = subst (λ v. Keeps 7 (Spells atom v) (λ t d. Spells expr a t (symbol CloseParen ∷ d))) (sym h) (record { sound = λ t d q. atom_group q; only = λ t d p e. group_only p })

text_only : {a d : List Lex} {x labels : List ℕ} {u : TreeTerm} → ((other : List ℕ) → Labels x other → other ≡ labels) → Spells atom (string x ∷ a) u d → (u ≡ text labels) × (d ≡ a)
text_only n (atom_text {labels = other} p) = (ap text (n other p), refl)

pub text_reads : (a b : List Lex) (x labels : List ℕ) → b ≡ string x ∷ a → Labels x labels → ((other : List ℕ) → Labels x other → other ≡ labels) → Reads 7 (Spells atom b) (text labels) a
text_reads a b x labels h p n = subst (λ v. Reads 7 (Spells atom v) (text labels) a) (sym h) (record { found = atom_text p; only = λ u d q e. text_only n q })

text_none : {a d : List Lex} {x : List ℕ} {u : TreeTerm} → ((other : List ℕ) → Labels x other → ⊥) → Spells atom (string x ∷ a) u d → ⊥
text_none n (atom_text {labels} p) = n labels p

pub text_fails : (a b : List Lex) (x : List ℕ) → b ≡ string x ∷ a → ((other : List ℕ) → Labels x other → ⊥) → Fails 7 (Spells atom b) Syntax
text_fails a b x h n = λ u d p e. text_none n (subst (λ v. Spells atom v u d) h p)

word_only : {a d : List Lex} {x : List ℕ} {u : TreeTerm} → Spells atom (word x ∷ a) u d → Spells (dotted x) a u d
word_only (atom_word p) = p

pub word_keeps : (a b : List Lex) (x : List ℕ) → b ≡ word x ∷ a → Keeps 7 (Spells atom b) (Spells (dotted x) a)
word_keeps a b x h = subst (λ v. Keeps 7 (Spells atom v) (Spells (dotted x) a)) (sym h) (record { sound = λ t d q. atom_word q; only = λ t d p e. word_only p })

atom_none : {b d : List Lex} {u : TreeTerm} → ((c : List Lex) → b ≡ symbol OpenParen ∷ c → ⊥) → ((x : List ℕ) (c : List Lex) → b ≡ word x ∷ c → ⊥) → ((x : List ℕ) (c : List Lex) → b ≡ string x ∷ c → ⊥) → Spells atom b u d → ⊥
atom_none n m k (atom_text {a} {x} p) = k x a refl
atom_none n m k (atom_group {a} p) = n a refl
atom_none n m k (atom_word {a} {x} p) = m x a refl

pub atom_fails : (b : List Lex) → ((c : List Lex) → b ≡ symbol OpenParen ∷ c → ⊥) → ((x : List ℕ) (c : List Lex) → b ≡ word x ∷ c → ⊥) → ((x : List ℕ) (c : List Lex) → b ≡ string x ∷ c → ⊥) → Fails 7 (Spells atom b) Syntax
atom_fails b n m k = λ u d p e. atom_none n m k p

-- names
named_high : {f : Callee} {a d : List Lex} {u : TreeTerm} → Spells (named f) (symbol Dot ∷ a) u d → Ends 7 d → ⊥
named_high named_alone e = omega (arith, e)

imported_only : {a d : List Lex} {x y : List ℕ} {u : TreeTerm} → Spells (dotted x) (symbol Dot ∷ word y ∷ a) u d → Ends 7 d → Spells (named (Imported x y)) a u d
imported_only (dotted_own p) e = absurd (named_high p e)
imported_only (dotted_imported p) e = p

pub imported_keeps : (a b : List Lex) (x y : List ℕ) → b ≡ symbol Dot ∷ word y ∷ a → Keeps 7 (Spells (dotted x) b) (Spells (named (Imported x y)) a)
imported_keeps a b x y h = subst (λ v. Keeps 7 (Spells (dotted x) v) (Spells (named (Imported x y)) a)) (sym h) (record { sound = λ t d q. dotted_imported q; only = λ t d p e. imported_only p e })

own_only : {b d : List Lex} {x : List ℕ} {u : TreeTerm} → ((y : List ℕ) (c : List Lex) → b ≡ symbol Dot ∷ word y ∷ c → ⊥) → Spells (dotted x) b u d → Spells (named (Own x)) b u d
own_only n (dotted_own p) = p
own_only n (dotted_imported {a} {y} p) = absurd (n y a refl)

pub own_keeps : (b : List Lex) (x : List ℕ) → ((y : List ℕ) (c : List Lex) → b ≡ symbol Dot ∷ word y ∷ c → ⊥) → Keeps 7 (Spells (dotted x) b) (Spells (named (Own x)) b)
own_keeps b x n = record { sound = λ t d q. dotted_own q; only = λ t d p e. own_only n p }

called_only : {f : Callee} {a d : List Lex} {u : TreeTerm} → Spells (named f) (symbol OpenBracket ∷ a) u d → Ends 7 d → Spells (arguments f) a u d
called_only named_alone e = absurd (omega (arith, e))
called_only (named_called p) e = p

pub called_keeps : (f : Callee) (a b : List Lex) → b ≡ symbol OpenBracket ∷ a → Keeps 7 (Spells (named f) b) (Spells (arguments f) a)
called_keeps f a b h = subst (λ v. Keeps 7 (Spells (named f) v) (Spells (arguments f) a)) (sym h) (record { sound = λ t d q. named_called q; only = λ t d p e. called_only p e })

used_only : {f : Callee} {b d : List Lex} {u : TreeTerm} → ((c : List Lex) → b ≡ symbol OpenBracket ∷ c → ⊥) → Spells (named f) b u d → (u ≡ used f) × (d ≡ b)
used_only n named_alone = (refl, refl)
used_only n (named_called {a} p) = absurd (n a refl)

pub used_reads : (f : Callee) (b : List Lex) → ((c : List Lex) → b ≡ symbol OpenBracket ∷ c → ⊥) → Reads 7 (Spells (named f) b) (used f) b
used_reads f b n = record { found = named_alone; only = λ u d p e. used_only n p }

-- arguments
argument_begins : {a d : List Lex} {u : TreeTerm} → Spells argument (symbol CloseBracket ∷ a) u d → ⊥
argument_begins (argument_expr p) = no_truth (expr_begins p)

empty_only : {f : Callee} {a d : List Lex} {u : TreeTerm} → Spells (arguments f) (symbol CloseBracket ∷ a) u d → (u ≡ called f []) × (d ≡ a)
empty_only arguments_none = (refl, refl)
empty_only (arguments_some p q) = absurd (argument_begins p)

pub empty_reads : (f : Callee) (a b : List Lex) → b ≡ symbol CloseBracket ∷ a → Reads 7 (Spells (arguments f) b) (called f []) a
empty_reads f a b h = subst (λ v. Reads 7 (Spells (arguments f) v) (called f []) a) (sym h) (record { found = arguments_none; only = λ u d p e. empty_only p })

commas_ends : {f : Callee} {b d : List Lex} {ts : List TreeTerm} {u : TreeTerm} → Spells (commas f ts) b u d → Ends 0 b
commas_ends commas_end = omega arith
commas_ends (commas_more p q) = omega arith

arguments_split : {f : Callee} {a d : List Lex} {u : TreeTerm} → ((c : List Lex) → a ≡ symbol CloseBracket ∷ c → ⊥) → Spells (arguments f) a u d → (t : TreeTerm) × (b : List Lex) × Spells argument a t b × Spells (commas f (t ∷ [])) b u d × Ends 0 b
arguments_split n (arguments_none {a}) = absurd (n a refl)
arguments_split n (arguments_some {b} {t} p q) = (t, b, p, q, commas_ends q)

pub arguments_first : (f : Callee) (a : List Lex) → ((c : List Lex) → a ≡ symbol CloseBracket ∷ c → ⊥) → First 7 0 (Spells (arguments f) a) (Spells argument a) (λ t b. Spells (commas f (t ∷ [])) b)
arguments_first f a n = record { build = λ t u b d p q. arguments_some p q; split = λ u d p e. arguments_split n p }

commas_split : {f : Callee} {a d : List Lex} {ts : List TreeTerm} {u : TreeTerm} → Spells (commas f ts) (symbol Comma ∷ a) u d → (t : TreeTerm) × (b : List Lex) × Spells argument a t b × Spells (commas f (ts ++ t ∷ [])) b u d × Ends 0 b
commas_split (commas_more {c} {t} p q) = (t, c, p, q, commas_ends q)

pub commas_first : (f : Callee) (ts : List TreeTerm) (a : List Lex) → First 7 0 (Spells (commas f ts) (symbol Comma ∷ a)) (Spells argument a) (λ t b. Spells (commas f (ts ++ t ∷ [])) b)
commas_first f ts a = record { build = λ t u b d p q. commas_more p q; split = λ u d p e. commas_split p }

commas_only : {f : Callee} {a d : List Lex} {ts : List TreeTerm} {u : TreeTerm} → Spells (commas f ts) (symbol CloseBracket ∷ a) u d → (u ≡ called f ts) × (d ≡ a)
commas_only commas_end = (refl, refl)

pub commas_done : (f : Callee) (ts : List TreeTerm) (a b : List Lex) → b ≡ symbol CloseBracket ∷ a → Reads 7 (Spells (commas f ts) b) (called f ts) a
commas_done f ts a b h = subst (λ v. Reads 7 (Spells (commas f ts) v) (called f ts) a) (sym h) (record { found = commas_end; only = λ u d p e. commas_only p })

commas_none : {f : Callee} {b d : List Lex} {ts : List TreeTerm} {u : TreeTerm} → ((c : List Lex) → b ≡ symbol Comma ∷ c → ⊥) → ((c : List Lex) → b ≡ symbol CloseBracket ∷ c → ⊥) → Spells (commas f ts) b u d → ⊥
commas_none n m (commas_end {a}) = m a refl
commas_none n m (commas_more {b} p q) = n b refl

pub commas_fail : (f : Callee) (ts : List TreeTerm) (b : List Lex) → ((c : List Lex) → b ≡ symbol Comma ∷ c → ⊥) → ((c : List Lex) → b ≡ symbol CloseBracket ∷ c → ⊥) → Fails 7 (Spells (commas f ts) b) Syntax
commas_fail f ts b n m = λ u d p e. commas_none n m p

quoted_only : {a d : List Lex} {x : List ℕ} {u : TreeTerm} → Spells argument (between_quotes x ∷ a) u d → (u ≡ quoted x) × (d ≡ a)
quoted_only (argument_expr p) = absurd (no_truth (expr_begins p))
quoted_only argument_quoted = (refl, refl)

pub quoted_reads : (a b : List Lex) (x : List ℕ) (t : TreeTerm) → b ≡ between_quotes x ∷ a → t ≡ quoted x → Reads 0 (Spells argument b) t a
quoted_reads a b x t h g = subst (λ v. Reads 0 (Spells argument v) t a) (sym h) (subst (λ v. Reads 0 (Spells argument (between_quotes x ∷ a)) v a) (sym g) (record { found = argument_quoted; only = λ u d p e. quoted_only p }))

spelled_only : {b d : List Lex} {u : TreeTerm} → ((x : List ℕ) (c : List Lex) → b ≡ between_quotes x ∷ c → ⊥) → Spells argument b u d → Spells expr b u d
spelled_only n (argument_expr p) = p
spelled_only n (argument_quoted {a} {x}) = absurd (n x a refl)

pub spelled_keeps : (b : List Lex) → ((x : List ℕ) (c : List Lex) → b ≡ between_quotes x ∷ c → ⊥) → Keeps 0 (Spells argument b) (Spells expr b)
spelled_keeps b n = record { sound = λ t d q. argument_expr q; only = λ t d p e. spelled_only n p }

-- steps of loops
pub bars_step : {P : TreeTerm → List Lex → Type 0} {ts us : List TreeTerm} {t : TreeTerm} {b a c : List Lex} → b ≡ symbol Bar ∷ a → us ≡ ts ++ t ∷ [] → Keeps 0 P (Spells (bars ts) b) → Reads 1 (Spells (joined Composition) a) t c → Keeps 0 P (Spells (bars us) c)
bars_step {P} {ts} {a} {c} h g k r = subst (λ v. Keeps 0 P (Spells (bars v) c)) (sym g) (step (λ u d. Spells (bars (ts ++ u ∷ [])) d) (subst (λ v. Keeps 0 P (Spells (bars ts) v)) h k) (bars_first ts a) r)

pub bars_fail : {P : TreeTerm → List Lex → Type 0} {ts : List TreeTerm} {b a : List Lex} (e : Stop) → b ≡ symbol Bar ∷ a → Keeps 0 P (Spells (bars ts) b) → Fails 1 (Spells (joined Composition) a) e → Fails 0 P e
bars_fail {P} {ts} {a} e h k f = step_fails (λ u d. Spells (bars (ts ++ u ∷ [])) d) e (subst (λ v. Keeps 0 P (Spells (bars ts) v)) h k) (bars_first ts a) f

pub tail_step : {P : TreeTerm → List Lex → Type 0} {t u v : TreeTerm} {b a c : List Lex} (op : Operator) (s : Symbol) → s ≡ sign op → b ≡ symbol s ∷ a → v ≡ join op t u → Keeps (level op) P (Spells (tail op t) b) → Reads (level op + 1) (Spells (operand op) a) u c → Keeps (level op) P (Spells (tail op v) c)
tail_step {P} {t} {a} {c} op s i h g k r = subst (λ w. Keeps (level op) P (Spells (tail op w) c)) (sym g) (step (λ x d. Spells (tail op (join op t x)) d) (subst (λ w. Keeps (level op) P (Spells (tail op t) w)) h k) (tail_first op s t a i) r)

pub tail_fail : {P : TreeTerm → List Lex → Type 0} {t : TreeTerm} {b a : List Lex} (op : Operator) (s : Symbol) (e : Stop) → s ≡ sign op → b ≡ symbol s ∷ a → Keeps (level op) P (Spells (tail op t) b) → Fails (level op + 1) (Spells (operand op) a) e → Fails (level op) P e
tail_fail {P} {t} {a} op s e i h k f = step_fails (λ x d. Spells (tail op (join op t x)) d) e (subst (λ w. Keeps (level op) P (Spells (tail op t) w)) h k) (tail_first op s t a i) f

pub weights_step : {P : TreeTerm → List Lex → Type 0} {t v : TreeTerm} {w : ℕ} {b a : List Lex} → b ≡ weight w ∷ a → v ≡ weighted t w → Keeps 4 P (Spells (weights t) b) → Keeps 4 P (Spells (weights v) a)
weights_step {P} {t} {w} {a} h g k = subst (λ x. Keeps 4 P (Spells (weights x) a)) (sym g) (keeps_trans (subst (λ x. Keeps 4 P (Spells (weights t) x)) h k) (weights_keep t w a))

pub members_step : {P : TreeTerm → List Lex → Type 0} {ts us : List TreeTerm} {t : TreeTerm} {b c : List Lex} → begins b ≡ true → us ≡ ts ++ t ∷ [] → Keeps 5 P (Spells (members ts) b) → Reads 6 (Spells closed b) t c → Keeps 5 P (Spells (members us) c)
members_step {P} {ts} {b} {c} h g k r = subst (λ v. Keeps 5 P (Spells (members v) c)) (sym g) (step (λ u d. Spells (members (ts ++ u ∷ [])) d) k (members_first ts b h) r)

pub members_fail : {P : TreeTerm → List Lex → Type 0} {ts : List TreeTerm} {b : List Lex} (e : Stop) → begins b ≡ true → Keeps 5 P (Spells (members ts) b) → Fails 6 (Spells closed b) e → Fails 5 P e
members_fail {ts} {b} e h k f = step_fails (λ u d. Spells (members (ts ++ u ∷ [])) d) e k (members_first ts b h) f

pub marks_step : {P : TreeTerm → List Lex → Type 0} {t v : TreeTerm} {r : Repeat} {b a : List Lex} → Takes (RepeatAt b) r a → v ≡ repeated r t → Keeps 6 P (Spells (marks t) b) → Keeps 6 P (Spells (marks v) a)
marks_step {P} {t} {r} {b} {a} m g k = subst (λ x. Keeps 6 P (Spells (marks x) a)) (sym g) (keeps_trans k (marks_keep t r b a m.found m.only))

pub commas_step : {P : TreeTerm → List Lex → Type 0} {ts us : List TreeTerm} {t : TreeTerm} {b a c : List Lex} {f : Callee} → b ≡ symbol Comma ∷ a → us ≡ ts ++ t ∷ [] → Keeps 7 P (Spells (commas f ts) b) → Reads 0 (Spells argument a) t c → Keeps 7 P (Spells (commas f us) c)
commas_step {P} {ts} {a} {c} {f} h g k r = subst (λ v. Keeps 7 P (Spells (commas f v) c)) (sym g) (step (λ u d. Spells (commas f (ts ++ u ∷ [])) d) (subst (λ v. Keeps 7 P (Spells (commas f ts) v)) h k) (commas_first f ts a) r)

pub commas_stop : {P : TreeTerm → List Lex → Type 0} {ts : List TreeTerm} {b a : List Lex} {f : Callee} (e : Stop) → b ≡ symbol Comma ∷ a → Keeps 7 P (Spells (commas f ts) b) → Fails 0 (Spells argument a) e → Fails 7 P e
commas_stop {P} {ts} {a} {f} e h k g = step_fails (λ u d. Spells (commas f (ts ++ u ∷ [])) d) e (subst (λ v. Keeps 7 P (Spells (commas f ts) v)) h k) (commas_first f ts a) g

-- what was pushed
pub pushed : {A B : Type 0} (f : A → B) (xs ys : List A) (x : A) → ys ≡ xs ++ x ∷ [] → map f ys ≡ map f xs ++ f x ∷ []
pushed f xs ys x h = ap (map f) h ∙ map-append f xs (x ∷ [])

pub first_pushed : {A : Type 0} {xs ys : List A} {x : A} → xs ≡ [] → ys ≡ xs ++ x ∷ [] → ys ≡ x ∷ []
first_pushed {x} h g = g ∙ ap (λ v. v ++ x ∷ []) h

pub second_pushed : {A : Type 0} {xs ys zs : List A} {x y : A} → xs ≡ [] → ys ≡ xs ++ x ∷ [] → zs ≡ ys ++ y ∷ [] → zs ≡ x ∷ y ∷ []
second_pushed {y} h g k = k ∙ ap (λ v. v ++ y ∷ []) (first_pushed h g)

pub grown : {A : Type 0} (xs ys : List A) (x : A) → ys ≡ xs ++ x ∷ [] → 2 ≤ length xs → 2 ≤ length ys
grown xs ys x h n = let e : length ys ≡ length xs + 1 = ap length h ∙ length-append xs (x ∷ []) in omega (arith, e, n)
