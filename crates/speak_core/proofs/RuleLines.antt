-- The lines of rules, one more at a time.
use Rattle.std.proofs.Common.{◌≡◌, ◌-◌, ◌∙◌, ◌++◌, ℕ, zero, suc, List, [], ◌∷◌, Some, All, map, take, drop, length, slice_get, refl, sym, ap, arith, append_assoc, subst}
use Rattle.core_expressions.specs.Views.{expression_of}
use Rattle.core_expressions.specs.declared.expressions.Expr.{Expr as Tree}
use Rattle.weighted_relations.specs.Expressions.{Expression}
use Rattle.speak_core.specs.Outputs.{rule_line, rule_lines}

all_taken : {A : Type 0} (xs : List A) (n : ℕ) → n ≡ length xs → take n xs ≡ xs
all_taken [] zero e = refl
all_taken [] (suc n) e = refl
all_taken (x ∷ xs) zero e = absurd (omega (arith, e))
all_taken (x ∷ xs) (suc n) e = ap (λ l. x ∷ l) (all_taken xs n (omega (arith, e)))

rest_of : {A : Type 0} (x : A) (xs : List A) → take (length (x ∷ xs) - 1) (drop 1 (x ∷ xs)) ≡ xs
rest_of x xs = all_taken xs (length (x ∷ xs) - 1) (omega arith)

pub next_line : (kind old text new line : List ℕ) (names : List (List ℕ)) (rules : List Tree) (n : List ℕ) (r : Tree)
    → slice_get names 0 ≡ Some n → slice_get rules 0 ≡ Some r → line ≡ rule_line kind n (expression_of r) → new ≡ text ++ line
    → text ++ rule_lines kind names (map expression_of rules) ≡ old
    → new ++ rule_lines kind (take (length names - 1) (drop 1 names)) (map expression_of (take (length rules - 1) (drop 1 rules))) ≡ old
next_line kind old text new line [] rules n r a b l e h = absurd (cc)
next_line kind old text new line (m ∷ names) [] n r a b l e h = absurd (cc)
next_line kind old text new line (m ∷ names) (s ∷ rules) n r a b l e h =
    let first : m ≡ n = cc in
    let rule : s ≡ r = cc in
    let all : List ℕ = rule_lines kind names (map expression_of rules) in
    ap (λ t. new ++ rule_lines kind t (map expression_of (take (length (s ∷ rules) - 1) (drop 1 (s ∷ rules))))) (rest_of m names)
    ∙ ap (λ t. new ++ rule_lines kind names (map expression_of t)) (rest_of s rules)
    ∙ ap (λ t. t ++ rule_lines kind names (map expression_of rules)) e
    ∙ append_assoc text line (rule_lines kind names (map expression_of rules))
    ∙ ap (λ t. text ++ (t ++ rule_lines kind names (map expression_of rules))) (l ∙ ap (λ p. rule_line kind p (expression_of r)) (sym first) ∙ ap (λ q. rule_line kind m (expression_of q)) (sym rule))
    ∙ h

pub all_rest : (P : Expression → Type 0) (rules : List Tree) → All P (map expression_of rules) → All P (map expression_of (take (length rules - 1) (drop 1 rules)))
all_rest P [] h = h
all_rest P (r ∷ rules) h = subst (λ t. All P (map expression_of t)) (sym (rest_of r rules)) (λ k d l. h (suc k) d (omega (arith, l)))
