use Rattle.std.proofs.Common.{◌≡◌, ◌∙◌, sym, ap, arith, map, min, ℕ, List, take, length, ◌≤◌}
use Rattle.std.specs.List.{sum_by}
use Rattle.std.proofs.lemmas.List.{take_all}
use Rattle.weighted_relations.specs.Expressions.{size, sizes, members}
use Rattle.weighted_relations.specs.MemberLaws.{sizes_sum}
use Rattle.core_expressions.specs.declared.expressions.Expr.{Expr}
use Rattle.core_expressions.specs.Views.{expression_of}
use Rattle.core_expressions.proofs.+size.Goals as goal

-- after the last part
all_parts : (xs : List Expr) (i most : ℕ) → length xs ≤ i → min (sum_by (λ e. size (expression_of e)) (take i xs)) most ≡ min (sizes (members (map expression_of xs))) most
all_parts xs i most l = ap (λ v. min (sum_by (λ e. size (expression_of e)) v) most) (take_all i xs l) ∙ sym (ap (λ n. min n most) (sizes_sum expression_of xs))

pub sizes::sizes-returns : goal.sizes::sizes-returns
sizes::sizes-returns t c = c.loop-part.invariant ∙ all_parts c.args.parts.now c.loop-part.part-index 18446744073709551615 (omega arith)
