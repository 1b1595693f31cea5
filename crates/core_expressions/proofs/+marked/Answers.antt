use Rattle.std.proofs.Common.{◌≡◌, ◌∙◌, sym, ap, subst, arith, false, true, map, ℕ, List, take, length, get_or, ◌<◌, ◌≤◌}
use Rattle.std.specs.List.{list_any}
use Rattle.std.proofs.lemmas.List.{take_all}
use Rattle.std.proofs.lemmas.List.Folds.{list_any_at}
use Rattle.weighted_relations.specs.Expressions.{is_marked, some_marked, holds_mark, members}
use Rattle.weighted_relations.specs.MemberLaws.{some_marked_any, holds_mark_any}
use Rattle.core_expressions.specs.declared.expressions.Expr.{Expr}
use Rattle.core_expressions.specs.Views.{expression_of}
use Rattle.core_expressions.specs.ViewLaws.{of_text}
use Rattle.core_expressions.proofs.+marked.Goals as goal

one_marked : (xs : List Expr) (i : ℕ) (x : Expr) → i < length xs → x ≡ get_or xs i x → is_marked (expression_of x) ≡ true → true ≡ some_marked (members (map expression_of xs))
one_marked xs i x l e h = sym (some_marked_any expression_of xs ∙ list_any_at (λ e. is_marked (expression_of e)) xs i x l (subst (λ v. is_marked (expression_of v) ≡ true) e h))

none_marked : (xs : List Expr) (i : ℕ) → length xs ≤ i → list_any (λ e. is_marked (expression_of e)) (take i xs) ≡ false → false ≡ some_marked (members (map expression_of xs))
none_marked xs i l h = sym (some_marked_any expression_of xs ∙ subst (λ v. list_any (λ e. is_marked (expression_of e)) v ≡ false) (take_all i xs l) h)

pub marks::some_marked-returns-then-is_marked : goal.marks::some_marked-returns-then-is_marked
marks::some_marked-returns-then-is_marked t c = one_marked c.args.parts.now c.loop-part.part-index c.part-item.result (omega arith) c.part-item.is (sym c.is_marked.ensures ∙ c.if-is_marked.true)

pub marks::some_marked-returns : goal.marks::some_marked-returns
marks::some_marked-returns t c = none_marked c.args.parts.now c.loop-part.part-index (omega arith) c.loop-part.invariant

pub expressions::Expr::is_marked-returns-in-Text : goal.expressions::Expr::is_marked-returns-in-Text
expressions::Expr::is_marked-returns-in-Text t c =
    let e = ap expression_of c.in-Text.is ∙ of_text c.in-Text.labels in
    c.holds_mark.ensures ∙ sym (ap is_marked e ∙ ap holds_mark (sym c.deref.ensures.value) ∙ holds_mark_any c.deref.result.now)
