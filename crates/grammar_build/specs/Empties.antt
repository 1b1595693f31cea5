-- Rewrites of the empty text, which no transducer is built for.
use Rattle.std.specs.Prelude.{◌⊎◌, []}
use Rattle.weighted_relations.specs.Relations.{IsInput}
use Rattle.weighted_relations.specs.Expressions.{Expression, Expressions, text, weighted, union, concat, star, cross, compose, minus, invert, project, rewrite, no_members, member, Rel}
use Rattle.grammar_build.specs.declared.faults.BuildFault.{BuildFault}
use Rattle.grammar_build.specs.declared.faults.BuildFault.TheVariants.{RewritesEmpty, Memory}

-- some rewrite in it, at any depth, may read the empty text
abbrev mutual
  pub RewritesEmptyText : Expression → Type 0
  RewritesEmptyText (text labels) = ⊥
  RewritesEmptyText (weighted e v) = RewritesEmptyText e
  RewritesEmptyText (union es) = OneRewritesEmptyText es
  RewritesEmptyText (concat es) = OneRewritesEmptyText es
  RewritesEmptyText (star e) = RewritesEmptyText e
  RewritesEmptyText (cross a b) = RewritesEmptyText a ⊎ RewritesEmptyText b
  RewritesEmptyText (compose a b) = RewritesEmptyText a ⊎ RewritesEmptyText b
  RewritesEmptyText (minus a b) = RewritesEmptyText a ⊎ RewritesEmptyText b
  RewritesEmptyText (invert e) = RewritesEmptyText e
  RewritesEmptyText (project e side) = RewritesEmptyText e
  RewritesEmptyText (rewrite tau left right sigma manner) = IsInput (Rel tau) [] ⊎ (RewritesEmptyText tau ⊎ (RewritesEmptyText left ⊎ (RewritesEmptyText right ⊎ RewritesEmptyText sigma)))

  pub OneRewritesEmptyText : Expressions → Type 0
  OneRewritesEmptyText no_members = ⊥
  OneRewritesEmptyText (member e es) = RewritesEmptyText e ⊎ OneRewritesEmptyText es

-- want of memory may come at any time; the other fault has this cause
abbrev pub HasCause : BuildFault → Expression → Type 0
HasCause Memory e = Unit {0}
HasCause RewritesEmpty e = RewritesEmptyText e

-- the same for the members of a union or a concatenation
abbrev pub OneHasCause : BuildFault → Expressions → Type 0
OneHasCause Memory es = Unit {0}
OneHasCause RewritesEmpty es = OneRewritesEmptyText es
