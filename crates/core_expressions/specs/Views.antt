-- The expression, as contracts see it, that a value stands for.
use Rattle.weighted_relations.specs.Rewriting.{Manner, obligatory, optional}
use Rattle.weighted_relations.specs.Expressions as pure
use Rattle.weighted_relations.specs.Expressions.{Expression, text, weighted, union, concat, star, cross, compose, minus, invert, project, rewrite, members, input_side, output_side}
use Rattle.core_expressions.specs.declared.expressions.Side.{Side}
use Rattle.core_expressions.specs.declared.expressions.Side.TheVariants as side
use Rattle.core_expressions.specs.declared.expressions.Mode.{Mode}
use Rattle.core_expressions.specs.declared.expressions.Mode.TheVariants as mode
use Rattle.core_expressions.specs.declared.expressions.Expr.{Expr}
use Rattle.core_expressions.specs.declared.expressions.RewriteOf.{RewriteOf}
use Rattle.core_expressions.specs.declared.expressions.Expr.TheOpen.{Expr-F, RewriteOf-F, Text, Weighted, Union, Concat, Star, Cross, Compose, Minus, Invert, Project, Rewrite}
use Rattle.core_expressions.specs.declared.expressions.Expr.TheFolds.{fold-Expr, fold-RewriteOf}

abbrev pub side_of : Side → pure.Side
side_of side.Input = input_side
side_of side.Output = output_side

abbrev pub manner_of : Mode → Manner
manner_of mode.Obligatory = obligatory
manner_of mode.Optional = optional

-- one level of an expression, with what its parts stand for in their places
abbrev pub expression_step : Expr-F Expression Expression → Expression
expression_step (Text labels) = text labels.items
expression_step (Weighted e v) = weighted e.value v
expression_step (Union es) = union (members es.items)
expression_step (Concat es) = concat (members es.items)
expression_step (Star e) = star e.value
expression_step (Cross a b) = cross a.value b.value
expression_step (Compose a b) = compose a.value b.value
expression_step (Minus a b) = minus a.value b.value
expression_step (Invert e) = invert e.value
expression_step (Project e s) = project e.value (side_of s)
expression_step (Rewrite r) = r.value

abbrev pub rewrite_step : RewriteOf-F Expression Expression → Expression
rewrite_step r = rewrite r.tau r.left r.right r.sigma (manner_of r.mode)

abbrev pub expression_of : Expr → Expression
expression_of = fold-Expr Expression Expression expression_step rewrite_step

abbrev pub rewrite_of : RewriteOf → Expression
rewrite_of = fold-RewriteOf Expression Expression expression_step rewrite_step
