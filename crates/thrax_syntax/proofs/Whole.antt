-- A text has one reading.
use Rattle.std.proofs.Common.{◌≡◌, ◌∙◌, sym, ap, subst, refl, arith, ℕ, ◌+◌, ◌-◌, List, [], ◌∷◌, ◌++◌, length, map, Option, Some, None, nat_eq, true, false}
use Rattle.std.proofs.lemmas.Bool.{eqb-true, eqb-false}
use Rattle.std.proofs.lemmas.List.{length-append, length-map}
use Rattle.std.specs.Prelude.{Result, Ok, Err, IsErrAnd}
use Rattle.thrax_lexer.specs.Lexemes.{Lex}
use Rattle.thrax_lexer.specs.Reading.{LexFails, LexText, Stopped, StoppedBy, lexes, too_deep}
use Rattle.text_forms.specs.Steps.{Many, Longest}
use Rattle.thrax_lexer.specs.declared.reading.LexFault.{LexFault}
use Rattle.thrax_lexer.specs.declared.reading.LexFault.TheVariants as lexing
use Rattle.text_forms.proofs.Chains.{ended_by, longest_once}
use Rattle.thrax_syntax.specs.Files.{DeepText, Reading, IsRead, IsAnswer, fault_of}
use Rattle.thrax_syntax.specs.FileOutcomes.{FileAnswers, StatesAs}
use Rattle.thrax_syntax.specs.Statements.{Stated, define_is}
use Rattle.thrax_syntax.specs.Trees.{StatementTerm}
use Rattle.thrax_syntax.specs.declared.fault.ReadFault.{ReadFault}
use Rattle.thrax_syntax.specs.declared.fault.ReadFault.TheVariants.{BadLexeme, BadWeight, TooDeep, Syntax, Memory}
use Rattle.thrax_syntax.specs.declared.tree.File.{File}

pub lex_once : {text : List ℕ} {l m : List Lex} {d e : Option ℕ} → LexText text l d → LexText text m e → (m ≡ l) × (e ≡ d)
lex_once a b =
    let k = longest_once a.whole b.whole in
    (sym b.lexemes ∙ ap lexes k.0 ∙ a.lexemes, sym b.deepest ∙ ap too_deep k.0 ∙ a.deepest)

not_nothing : {A : Type 0} {x : A} {xs : List A} → x ∷ xs ≡ [] → ⊥
not_nothing h = cc

pub lex_stopped : {text : List ℕ} {l : List Lex} {d : Option ℕ} {f : LexFault} → LexText text l d → Stopped text f → ⊥
lex_stopped a s = not_nothing (longest_once a.whole s.longest).1

stopped_same : (b place : ℕ) (f g : LexFault) → StoppedBy b place f → StoppedBy b place g → g ≡ f
stopped_same b place (lexing.Memory) g p q = absurd p
stopped_same b place f (lexing.Memory) p q = absurd q
stopped_same b place (lexing.BadWeight i) (lexing.BadWeight j) p q = ap lexing.BadWeight (q.1 ∙ sym p.1)
stopped_same b place (lexing.BadLexeme i) (lexing.BadLexeme j) p q = ap lexing.BadLexeme (q.1 ∙ sym p.1)
stopped_same b place (lexing.BadWeight i) (lexing.BadLexeme j) p q = absurd (q.0 p.0)
stopped_same b place (lexing.BadLexeme i) (lexing.BadWeight j) p q = absurd (p.0 q.0)

pub stopped_once : {text : List ℕ} {f g : LexFault} → Stopped text f → Stopped text g → g ≡ f
stopped_once {text} {f} {g} a b =
    let k = longest_once a.longest b.longest in
    let e : b.first ∷ b.after ≡ a.first ∷ a.after = k.1 in
    let i : b.first ≡ a.first = cc in
    let why = subst (λ v. StoppedBy b.first (length text - length v) g) e b.why in
    let same = subst (λ v. StoppedBy v (length text - length (a.first ∷ a.after)) g) i why in
    stopped_same a.first (length text - length (a.first ∷ a.after)) f g a.why same

no_statement : {x : StatementTerm} {c : List Lex} → Stated [] x c → ⊥
no_statement (define_is p) = elim p [ ]

none_some : {n : ℕ} → None ≡ Some n → ⊥
none_some h = cc

some_same : {n m : ℕ} → Some n ≡ Some m → n ≡ m
some_same h = cc

lexeme_same : {n m : ℕ} → lexing.BadLexeme n ≡ lexing.BadLexeme m → n ≡ m
lexeme_same h = cc

weight_same : {n m : ℕ} → lexing.BadWeight n ≡ lexing.BadWeight m → n ≡ m
weight_same h = cc

lexeme_weight : {n m : ℕ} → lexing.BadLexeme n ≡ lexing.BadWeight m → ⊥
lexeme_weight h = cc

-- one list of whole statements
ended : {lexemes others left : List Lex} {whole file : List StatementTerm} → others ≡ lexemes → Longest Stated lexemes whole left → Many Stated others file [] → (file ≡ whole) × ([] ≡ left)
ended {lexemes} {left} {whole} {file} h l p = ended_by Stated lexemes whole file left [] (λ x c q. no_statement q) l (subst (λ v. Many Stated v file []) h p)

counted : {lexemes others left rest : List Lex} {whole ys : List StatementTerm} → others ≡ lexemes → Longest Stated lexemes whole left → Longest Stated others ys rest → (ys ≡ whole) × (rest ≡ left)
counted {rest} {ys} h l m = longest_once l (subst (λ v. Longest Stated v ys rest) h m)

pub answer_found : (text : List ℕ) (r : Result File ReadFault) → FileAnswers text r → IsRead text r
answer_found text (Ok file) a = record { lexemes = a.0; lexed = a.1; statements = a.2.list }
answer_found text (Err (BadLexeme place)) a = a
answer_found text (Err (BadWeight place)) a = a
answer_found text (Err (TooDeep place)) a = a
answer_found text (Err (Syntax number)) a = a
answer_found text (Err Memory) a = tt

pub answer_only : (text : List ℕ) (r : Result File ReadFault) → FileAnswers text r → (s : Result (List StatementTerm) ReadFault) → Reading text s → IsAnswer s r
answer_only text (Ok file) a (Ok other) s = ap Ok (ended (lex_once a.1 s.lexed).0 a.2 s.statements).0
answer_only text (Ok file) a (Err (BadLexeme place)) s = absurd (lex_stopped a.1 s)
answer_only text (Ok file) a (Err (BadWeight place)) s = absurd (lex_stopped a.1 s)
answer_only text (Ok file) a (Err (TooDeep place)) s = absurd (none_some (sym (lex_once a.1 s.lexed).1))
answer_only text (Ok file) a (Err (Syntax number)) s = absurd (s.some_left (counted (lex_once a.1 s.lexed).0 a.2 s.longest).1)
answer_only text (Ok file) a (Err Memory) s = absurd s
answer_only text (Err (BadLexeme place)) a (Ok other) s = absurd (lex_stopped s.lexed a)
answer_only text (Err (BadLexeme place)) a (Err (BadLexeme other)) s = ap (λ v. Err (BadLexeme v)) (lexeme_same (stopped_once a s))
answer_only text (Err (BadLexeme place)) a (Err (BadWeight other)) s = absurd (lexeme_weight (stopped_once s a))
answer_only text (Err (BadLexeme place)) a (Err (TooDeep other)) s = absurd (lex_stopped s.lexed a)
answer_only text (Err (BadLexeme place)) a (Err (Syntax number)) s = absurd (lex_stopped s.lexed a)
answer_only text (Err (BadLexeme place)) a (Err Memory) s = absurd s
answer_only text (Err (BadWeight place)) a (Ok other) s = absurd (lex_stopped s.lexed a)
answer_only text (Err (BadWeight place)) a (Err (BadLexeme other)) s = absurd (lexeme_weight (stopped_once a s))
answer_only text (Err (BadWeight place)) a (Err (BadWeight other)) s = ap (λ v. Err (BadWeight v)) (weight_same (stopped_once a s))
answer_only text (Err (BadWeight place)) a (Err (TooDeep other)) s = absurd (lex_stopped s.lexed a)
answer_only text (Err (BadWeight place)) a (Err (Syntax number)) s = absurd (lex_stopped s.lexed a)
answer_only text (Err (BadWeight place)) a (Err Memory) s = absurd s
answer_only text (Err (TooDeep place)) a (Ok other) s = absurd (none_some (lex_once a.lexed s.lexed).1)
answer_only text (Err (TooDeep place)) a (Err (BadLexeme other)) s = absurd (lex_stopped a.lexed s)
answer_only text (Err (TooDeep place)) a (Err (BadWeight other)) s = absurd (lex_stopped a.lexed s)
answer_only text (Err (TooDeep place)) a (Err (TooDeep other)) s = ap (λ v. Err (TooDeep v)) (some_same (lex_once a.lexed s.lexed).1)
answer_only text (Err (TooDeep place)) a (Err (Syntax number)) s = absurd (none_some (lex_once a.lexed s.lexed).1)
answer_only text (Err (TooDeep place)) a (Err Memory) s = absurd s
answer_only text (Err (Syntax number)) a (Ok other) s = absurd (a.some_left (sym (ended (lex_once a.lexed s.lexed).0 a.longest s.statements).1))
answer_only text (Err (Syntax number)) a (Err (BadLexeme other)) s = absurd (lex_stopped a.lexed s)
answer_only text (Err (Syntax number)) a (Err (BadWeight other)) s = absurd (lex_stopped a.lexed s)
answer_only text (Err (Syntax number)) a (Err (TooDeep other)) s = absurd (none_some (sym (lex_once a.lexed s.lexed).1))
answer_only text (Err (Syntax number)) a (Err (Syntax other)) s = ap (λ v. Err (Syntax v)) (s.counted ∙ ap (λ v. length v + 1) (counted (lex_once a.lexed s.lexed).0 a.longest s.longest).0 ∙ sym a.counted)
answer_only text (Err (Syntax number)) a (Err Memory) s = absurd s
answer_only text (Err Memory) a s h = tt

-- exits
pub lexing_stops : (text : List ℕ) (f : LexFault) (r : Result File ReadFault) → IsErrAnd r (λ y. y ≡ fault_of f) → LexFails text f → FileAnswers text r
lexing_stops text f (Ok x) h a = absurd h
lexing_stops text (lexing.BadLexeme place) (Err y) h a = subst (λ v. FileAnswers text (Err v)) (sym h) a
lexing_stops text (lexing.BadWeight place) (Err y) h a = subst (λ v. FileAnswers text (Err v)) (sym h) a
lexing_stops text lexing.Memory (Err y) h a = subst (λ v. FileAnswers text (Err v)) (sym h) tt

pub deep_answer : (text : List ℕ) (l : List Lex) (d : Option ℕ) (place : ℕ) → d ≡ Some place → LexText text l d → DeepText text place
deep_answer text l d place h a = record { lexemes = l; lexed = subst (LexText text l) h a }

pub states_stop : (text : List ℕ) (l : List Lex) (d : Option ℕ) (e : ReadFault) (r : Result File ReadFault) → d ≡ None → LexText text l d → IsErrAnd r (λ y. y ≡ e) → StatesAs l (Err e) → FileAnswers text r
states_stop text l d e (Ok x) h a g s = absurd g
states_stop text l d (Syntax number) (Err y) h a g s = subst (λ v. FileAnswers text (Err v)) (sym g) (record { lexemes = l; lexed = subst (LexText text l) h a; whole = s.0; left = s.1; longest = s.2; some_left = s.3; counted = s.4 })
states_stop text l d Memory (Err y) h a g s = subst (λ v. FileAnswers text (Err v)) (sym g) tt
states_stop text l d (BadLexeme place) (Err y) h a g s = absurd s
states_stop text l d (BadWeight place) (Err y) h a g s = absurd s
states_stop text l d (TooDeep place) (Err y) h a g s = absurd s

pub full_map : {A B : Type 0} (f : A → B) (xs : List A) → nat_eq (length xs) 0 ≡ false → map f xs ≡ [] → ⊥
full_map f xs h e = let g : length xs ≡ 0 = sym (length-map xs f) ∙ ap length e in absurd (eqb-false _ _ h g)
