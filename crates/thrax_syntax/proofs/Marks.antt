-- One mark of repetition.
use Rattle.std.proofs.Common.{◌≡◌, sym, subst, refl, ℕ, ◌≤◌, List, ◌∷◌}
use Rattle.text_forms.specs.Answers.{Takes}
use Rattle.thrax_lexer.specs.Lexemes.{Lex, number, symbol}
use Rattle.thrax_lexer.specs.declared.bytes.Symbol.TheVariants.{Comma, Star, Plus, Question, OpenBrace, CloseBrace}
use Rattle.thrax_syntax.specs.Grammar.{RepeatAt, star_mark, plus_mark, question_mark, braces}
use Rattle.thrax_syntax.specs.declared.operators.Repeat.{Repeat}
use Rattle.thrax_syntax.specs.declared.operators.Repeat.TheVariants.{AnyNumber, OneOrMore, AtMostOne, Between}

star_only : {a c : List Lex} {r : Repeat} → RepeatAt (symbol Star ∷ a) r c → (r ≡ AnyNumber) × (c ≡ a)
star_only star_mark = (refl, refl)

pub star_takes : (b a : List Lex) → b ≡ symbol Star ∷ a → Takes (RepeatAt b) AnyNumber a
star_takes b a h = subst (λ v. Takes (RepeatAt v) AnyNumber a) (sym h) (record { found = star_mark; only = λ r c p. star_only p })

plus_only : {a c : List Lex} {r : Repeat} → RepeatAt (symbol Plus ∷ a) r c → (r ≡ OneOrMore) × (c ≡ a)
plus_only plus_mark = (refl, refl)

pub plus_takes : (b a : List Lex) → b ≡ symbol Plus ∷ a → Takes (RepeatAt b) OneOrMore a
plus_takes b a h = subst (λ v. Takes (RepeatAt v) OneOrMore a) (sym h) (record { found = plus_mark; only = λ r c p. plus_only p })

question_only : {a c : List Lex} {r : Repeat} → RepeatAt (symbol Question ∷ a) r c → (r ≡ AtMostOne) × (c ≡ a)
question_only question_mark = (refl, refl)

pub question_takes : (b a : List Lex) → b ≡ symbol Question ∷ a → Takes (RepeatAt b) AtMostOne a
question_takes b a h = subst (λ v. Takes (RepeatAt v) AtMostOne a) (sym h) (record { found = question_mark; only = λ r c p. question_only p })

braces_only : {a c : List Lex} {m n : ℕ} {r : Repeat} → RepeatAt (symbol OpenBrace ∷ number m ∷ symbol Comma ∷ number n ∷ symbol CloseBrace ∷ a) r c → (r ≡ Between m n) × (c ≡ a)
braces_only (braces h) = (refl, refl)

pub braces_take : (b a : List Lex) (m n : ℕ) → b ≡ number m ∷ symbol Comma ∷ number n ∷ symbol CloseBrace ∷ a → m ≤ n → Takes (λ r c. RepeatAt (symbol OpenBrace ∷ b) r c) (Between m n) a
braces_take b a m n h g = subst (λ v. Takes (λ r c. RepeatAt (symbol OpenBrace ∷ v) r c) (Between m n) a) (sym h) (record { found = braces g; only = λ r c p. braces_only p })
