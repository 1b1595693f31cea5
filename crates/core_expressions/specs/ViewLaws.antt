-- What each variant stands for.
use Rattle.std.specs.Prelude.{◌≡◌, ℕ, map, Vec}
use Rattle.std.specs.declared.alloc.Global.{Global}
use Rattle.std.proofs.Common.{sym, ap, ◌∙◌, Box}
use Rattle.weighted_relations.specs.Expressions.{Expression, text, weighted, union, concat, star, cross, compose, minus, invert, project, members}
use Rattle.core_expressions.specs.declared.expressions.Side.{Side}
use Rattle.core_expressions.specs.declared.expressions.RewriteOf.{RewriteOf}
use Rattle.core_expressions.specs.declared.expressions.Expr.{Expr}
use Rattle.core_expressions.specs.declared.expressions.Expr.TheVariants as variants
use Rattle.core_expressions.specs.declared.expressions.Expr.TheOpen as layer
use Rattle.core_expressions.specs.declared.expressions.Expr.TheFolds.{fold-roll-Expr}
use Rattle.core_expressions.specs.Views.{expression_of, expression_step, rewrite_step, rewrite_of, side_of}

pub of_text : (labels : Vec ℕ Global) → expression_of (variants.Text labels) ≡ text labels.items
of_text labels = ap expression_of (sym (variants.rolls-Text labels)) ∙ fold-roll-Expr Expression Expression expression_step rewrite_step (layer.Text labels)

pub of_weighted : (e : Box Expr Global) (v : ℕ) → expression_of (variants.Weighted e v) ≡ weighted (expression_of e.value) v
of_weighted e v = ap expression_of (sym (variants.rolls-Weighted e v)) ∙ fold-roll-Expr Expression Expression expression_step rewrite_step (layer.Weighted e v)

pub of_union : (es : Vec Expr Global) → expression_of (variants.Union es) ≡ union (members (map expression_of es.items))
of_union es = ap expression_of (sym (variants.rolls-Union es)) ∙ fold-roll-Expr Expression Expression expression_step rewrite_step (layer.Union es)

pub of_concat : (es : Vec Expr Global) → expression_of (variants.Concat es) ≡ concat (members (map expression_of es.items))
of_concat es = ap expression_of (sym (variants.rolls-Concat es)) ∙ fold-roll-Expr Expression Expression expression_step rewrite_step (layer.Concat es)

pub of_star : (e : Box Expr Global) → expression_of (variants.Star e) ≡ star (expression_of e.value)
of_star e = ap expression_of (sym (variants.rolls-Star e)) ∙ fold-roll-Expr Expression Expression expression_step rewrite_step (layer.Star e)

pub of_cross : (a : Box Expr Global) (b : Box Expr Global) → expression_of (variants.Cross a b) ≡ cross (expression_of a.value) (expression_of b.value)
of_cross a b = ap expression_of (sym (variants.rolls-Cross a b)) ∙ fold-roll-Expr Expression Expression expression_step rewrite_step (layer.Cross a b)

pub of_compose : (a : Box Expr Global) (b : Box Expr Global) → expression_of (variants.Compose a b) ≡ compose (expression_of a.value) (expression_of b.value)
of_compose a b = ap expression_of (sym (variants.rolls-Compose a b)) ∙ fold-roll-Expr Expression Expression expression_step rewrite_step (layer.Compose a b)

pub of_minus : (a : Box Expr Global) (b : Box Expr Global) → expression_of (variants.Minus a b) ≡ minus (expression_of a.value) (expression_of b.value)
of_minus a b = ap expression_of (sym (variants.rolls-Minus a b)) ∙ fold-roll-Expr Expression Expression expression_step rewrite_step (layer.Minus a b)

pub of_invert : (e : Box Expr Global) → expression_of (variants.Invert e) ≡ invert (expression_of e.value)
of_invert e = ap expression_of (sym (variants.rolls-Invert e)) ∙ fold-roll-Expr Expression Expression expression_step rewrite_step (layer.Invert e)

pub of_project : (e : Box Expr Global) (s : Side) → expression_of (variants.Project e s) ≡ project (expression_of e.value) (side_of s)
of_project e s = ap expression_of (sym (variants.rolls-Project e s)) ∙ fold-roll-Expr Expression Expression expression_step rewrite_step (layer.Project e s)

pub of_rewrite : (r : Box RewriteOf Global) → expression_of (variants.Rewrite r) ≡ rewrite_of r.value
of_rewrite r = ap expression_of (sym (variants.rolls-Rewrite r)) ∙ fold-roll-Expr Expression Expression expression_step rewrite_step (layer.Rewrite r)
