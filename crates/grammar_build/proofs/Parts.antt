-- The parts of a union or a concatenation, one after another.
use Rattle.std.proofs.Common.{◌≡◌, ◌∙◌, sym, ap, subst, arith, ℕ, zero, suc, ◌+◌, ◌^◌, ◌<◌, ◌≤◌, inl, inr, ◌⊎◌, List, [], ◌∷◌, ◌++◌, map, take, length, get_or}
use Rattle.std.specs.List.{sum_by}
use Rattle.std.proofs.lemmas.List.{map_more, take_more, take_all}
use Rattle.std.proofs.lemmas.List.Sums.{sum_by_push}
use denote.Param.Weighed.{most, at_most}
use Rattle.fst_core.specs.Top.{top_of}
use Rattle.weighted_relations.specs.Machines.{Machine, Reads}
use Rattle.weighted_relations.specs.Relations.{Same}
use Rattle.weighted_relations.specs.Expressions.{Expression, Rel, MeetsKinds, MeetKinds, literals, all_literals, members}
use Rattle.weighted_relations.specs.ExpressionLaws.{Alike, alike_push, kinds_at}
use Rattle.weighted_relations.specs.MemberLaws.{literals_sum}
use Rattle.core_expressions.specs.declared.expressions.Expr.{Expr, size-Expr}
use Rattle.core_expressions.specs.Views.{expression_of}
use Rattle.grammar_build.specs.declared.faults.BuildFault.{BuildFault}
use Rattle.grammar_build.specs.declared.faults.BuildFault.TheVariants.{RewritesEmpty, Memory}
use Rattle.grammar_build.specs.Empties.{RewritesEmptyText, OneRewritesEmptyText, HasCause, OneHasCause}

pub alike_more : (ms : List Machine) (m : Machine) (parts : List Expr) (i : ℕ) (x : Expr) → i < length parts → x ≡ get_or parts i x → Same (Reads m) (Rel (expression_of x)) → Alike ms (map expression_of (take i parts)) → Alike (ms ++ m ∷ []) (map expression_of (take (i + 1) parts))
alike_more ms m parts i x l e f h = rw (map_more expression_of parts i x l, ← e) (alike_push ms (map expression_of (take i parts)) m (expression_of x) h f)

pub tops_more : (ms : List Machine) (m : Machine) (parts : List Expr) (i : ℕ) (x : Expr) → i < length parts → x ≡ get_or parts i x → top_of m ≤ literals (expression_of x) → sum_by top_of ms ≤ sum_by (λ e. literals (expression_of e)) (take i parts) → sum_by top_of (ms ++ m ∷ []) ≤ sum_by (λ e. literals (expression_of e)) (take (i + 1) parts)
tops_more ms m parts i x l e f h =
    let one = subst (λ v. sum_by (λ e. literals (expression_of e)) (take (i + 1) parts) ≡ sum_by (λ e. literals (expression_of e)) (take i parts) + literals (expression_of v)) (sym e) (ap (sum_by (λ e. literals (expression_of e))) (take_more parts i x l) ∙ sum_by_push (λ e. literals (expression_of e)) (take i parts) (get_or parts i x)) in
    omega (arith, one, sum_by_push top_of ms m, f, h)

pub tops_all : (ms : List Machine) (parts : List Expr) (i : ℕ) → length parts ≤ i → sum_by top_of ms ≤ sum_by (λ e. literals (expression_of e)) (take i parts) → sum_by top_of ms ≤ all_literals (members (map expression_of parts))
tops_all ms parts i l h = subst (λ n. sum_by top_of ms ≤ n) (ap (sum_by (λ e. literals (expression_of e))) (take_all i parts l) ∙ sym (literals_sum expression_of parts)) h

pub part_kinds : (parts : List Expr) (i : ℕ) (x : Expr) → i < length parts → x ≡ get_or parts i x → MeetKinds (members (map expression_of parts)) → MeetsKinds (expression_of x)
part_kinds parts i x l e h = subst (λ v. MeetsKinds (expression_of v)) (sym e) (kinds_at expression_of parts i x l h)

literals_at : (xs : List Expr) (i : ℕ) (d : Expr) → i < length xs → literals (expression_of (get_or xs i d)) ≤ all_literals (members (map expression_of xs))
literals_at [] i d l = absurd (omega (arith, l))
literals_at (x ∷ xs) zero d l = omega arith
literals_at (x ∷ xs) (suc i) d l = omega (arith, literals_at xs i d (omega (arith, l)))

pub part_literals : (parts : List Expr) (i : ℕ) (x : Expr) → i < length parts → x ≡ get_or parts i x → all_literals (members (map expression_of parts)) < 2 ^ 54 → literals (expression_of x) < 2 ^ 54
part_literals parts i x l e h =
    let one = subst (λ v. literals (expression_of v) ≤ all_literals (members (map expression_of parts))) (sym e) (literals_at parts i x l) in
    omega (arith, one, h)

-- a member rewrites the empty text
one_at : (xs : List Expr) (i : ℕ) (d : Expr) → i < length xs → RewritesEmptyText (expression_of (get_or xs i d)) → OneRewritesEmptyText (members (map expression_of xs))
one_at [] i d l h = absurd (omega (arith, l))
one_at (x ∷ xs) zero d l h = inl h
one_at (x ∷ xs) (suc i) d l h = inr (one_at xs i d (omega (arith, l)) h)

pub part_cause : (f : BuildFault) (parts : List Expr) (i : ℕ) (x : Expr) → i < length parts → x ≡ get_or parts i x → HasCause f (expression_of x) → OneHasCause f (members (map expression_of parts))
part_cause RewritesEmpty parts i x l e h = one_at parts i x l (subst (λ v. RewritesEmptyText (expression_of v)) e h)
part_cause Memory parts i x l e h = tt

-- none of the first members rewrites the empty text, nor the next one
pub one_push : (es : List Expression) (e : Expression) → OneRewritesEmptyText (members (es ++ e ∷ [])) → OneRewritesEmptyText (members es) ⊎ RewritesEmptyText e
one_push [] e h = elim h [ inl k ↦ inr k | inr k ↦ absurd k ]
one_push (u ∷ us) e h = elim h [ inl k ↦ inl (inl k) | inr k ↦ elim (one_push us e k) [ inl j ↦ inl (inr j) | inr j ↦ inr j ] ]

pub none_more : (parts : List Expr) (i : ℕ) (x : Expr) → i < length parts → x ≡ get_or parts i x → (OneRewritesEmptyText (members (map expression_of (take i parts))) → ⊥) → (RewritesEmptyText (expression_of x) → ⊥) → OneRewritesEmptyText (members (map expression_of (take (i + 1) parts))) → ⊥
none_more parts i x l e f g h =
    let both = one_push (map expression_of (take i parts)) (expression_of x) (subst (λ v. OneRewritesEmptyText (members v)) (map_more expression_of parts i x l ∙ ap (λ v. map expression_of (take i parts) ++ expression_of v ∷ []) (sym e)) h) in
    elim both [ inl k ↦ f k | inr k ↦ g k ]

pub none_all : (parts : List Expr) (i : ℕ) → length parts ≤ i → (OneRewritesEmptyText (members (map expression_of (take i parts))) → ⊥) → OneRewritesEmptyText (members (map expression_of parts)) → ⊥
none_all parts i l f h = f (subst (λ v. OneRewritesEmptyText (members (map expression_of v))) (sym (take_all i parts l)) h)

-- a part is no deeper than the deepest
pub part_depth : (parts : List Expr) (i : ℕ) (x : Expr) → i < length parts → x ≡ get_or parts i x → size-Expr x ≤ most size-Expr parts
part_depth parts i x l e = subst (λ v. size-Expr v ≤ most size-Expr parts) (sym e) (at_most size-Expr parts i x l)
