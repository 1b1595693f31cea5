-- How the reading of a part goes on.
use Rattle.std.proofs.Common.{◌≡◌, sym, subst, ℕ, List}
use Rattle.std.specs.Prelude.{Result, Ok, Err, IsErrAnd}
use Rattle.std.specs.Borrow.{Bor}
use Rattle.thrax_lexer.specs.Lexemes.{Lex}
use Rattle.thrax_lexer.specs.declared.lexemes.Lexeme.{Lexeme}
use Rattle.thrax_syntax.specs.Outcomes.{Answers, Ends, Fails, Reads}
use Rattle.thrax_syntax.specs.Trees.{TreeTerm}
use Rattle.thrax_syntax.specs.declared.stop.Stop.{Stop}
use Rattle.thrax_syntax.specs.declared.stop.Stop.TheVariants.{Syntax, Memory}
use Rattle.thrax_syntax.specs.declared.tree.Tree.{Tree}

-- what is left of a whole: each way of Q completes P, and each way of P to an end is one of Q
pub record Keeps (k : ℕ) (P Q : TreeTerm → List Lex → Type 0) : Type 0 where
  pub sound : (t : TreeTerm) (d : List Lex) → Q t d → P t d
  pub only : (t : TreeTerm) (d : List Lex) → P t d → Ends k d → Q t d

-- P is a part F, which ends at j, and then T of what F is
pub record First (k j : ℕ) (P F : TreeTerm → List Lex → Type 0) (T : TreeTerm → List Lex → TreeTerm → List Lex → Type 0) : Type 0 where
  pub build : (t u : TreeTerm) (b d : List Lex) → F t b → T t b u d → P u d
  pub split : (u : TreeTerm) (d : List Lex) → P u d → Ends k d → (t : TreeTerm) × (b : List Lex) × F t b × T t b u d × Ends j b

pub first_keeps : {k j : ℕ} {P F : TreeTerm → List Lex → Type 0} {t : TreeTerm} {b : List Lex} (T : TreeTerm → List Lex → TreeTerm → List Lex → Type 0) → First k j P F T → Reads j F t b → Keeps k P (T t b)
first_keeps {t} {b} T s r = record {
  sound = λ u d q. s.build t u b d r.found q;
  only = λ u d p e.
      let m = s.split u d p e in
      let n = r.only m.0 m.1 m.2 m.4 in
      subst (λ v. T t v u d) n.1 (subst (λ v. T v m.1 u d) n.0 m.3);
}

pub first_fails : {k j : ℕ} {P F : TreeTerm → List Lex → Type 0} (T : TreeTerm → List Lex → TreeTerm → List Lex → Type 0) (e : Stop) → First k j P F T → Fails j F e → Fails k P e
first_fails T Memory s f = tt
first_fails T Syntax s f = λ u d p e. let m = s.split u d p e in f m.0 m.1 m.2 m.4

pub keeps_trans : {k : ℕ} {P Q R : TreeTerm → List Lex → Type 0} → Keeps k P Q → Keeps k Q R → Keeps k P R
keeps_trans h g = record { sound = λ t d q. h.sound t d (g.sound t d q); only = λ t d p e. g.only t d (h.only t d p e) e }

pub keeps_reads : {k : ℕ} {P Q : TreeTerm → List Lex → Type 0} {t : TreeTerm} {b : List Lex} → Keeps k P Q → Reads k Q t b → Reads k P t b
keeps_reads {t} {b} h r = record { found = h.sound t b r.found; only = λ u d p e. r.only u d (h.only u d p e) e }

pub keeps_fails : {k : ℕ} {P Q : TreeTerm → List Lex → Type 0} (e : Stop) → Keeps k P Q → Fails k Q e → Fails k P e
keeps_fails Memory h f = tt
keeps_fails Syntax h f = λ u d p e. f u d (h.only u d p e) e

pub keeps_answers : {k : ℕ} {P Q : TreeTerm → List Lex → Type 0} (r : Result (Tree × Bor (List Lexeme)) Stop) → Keeps k P Q → Answers k Q r → Answers k P r
keeps_answers (Ok x) h a = keeps_reads h a
keeps_answers (Err e) h a = keeps_fails e h a

-- an exit with a fault
pub stops : (k : ℕ) (P : TreeTerm → List Lex → Type 0) (e : Stop) (r : Result (Tree × Bor (List Lexeme)) Stop) → IsErrAnd r (λ y. y ≡ e) → Fails k P e → Answers k P r
stops k P e (Ok x) h f = absurd h
stops k P e (Err y) h f = subst (Fails k P) (sym h) f

-- another name for what was read
pub reads_as : {k : ℕ} {P : TreeTerm → List Lex → Type 0} {t u : TreeTerm} {b : List Lex} → t ≡ u → Reads k P t b → Reads k P u b
reads_as {k} {P} {b} h r = subst (λ v. Reads k P v b) h r

-- a step from what was kept
pub step : {k j : ℕ} {P Q F : TreeTerm → List Lex → Type 0} {t : TreeTerm} {b : List Lex} (T : TreeTerm → List Lex → TreeTerm → List Lex → Type 0) → Keeps k P Q → First k j Q F T → Reads j F t b → Keeps k P (T t b)
step T h s r = keeps_trans h (first_keeps T s r)

pub step_fails : {k j : ℕ} {P Q F : TreeTerm → List Lex → Type 0} (T : TreeTerm → List Lex → TreeTerm → List Lex → Type 0) (e : Stop) → Keeps k P Q → First k j Q F T → Fails j F e → Fails k P e
step_fails T e h s f = keeps_fails e h (first_fails T e s f)
