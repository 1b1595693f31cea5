-- What a rewrite of trees means, before its arguments are a list.
use Rattle.std.specs.Prelude.{List, map}
use Rattle.norm_base.specs.Files.{Files}
use Rattle.thrax_syntax.specs.declared.tree.Tree.{Tree}
use Rattle.thrax_syntax.specs.Trees.{terms, tree_term}
use Rattle.thrax_meaning.specs.Meaning.{Scope, Local, Argument, Taken, followed, meant, arguments, options_of, rewrite_told}

-- the arguments of these trees
abbrev pub given : Files → Scope → List Local → List Tree → List Argument
given f s l args = arguments f s l (terms (map tree_term args))

abbrev pub rewritten : Files → Scope → List Local → Tree → Tree → Tree → Tree → List Tree → Taken
rewritten f s l tau left right sigma options =
    followed (meant f s l (tree_term tau)) (λ tau. followed (meant f s l (tree_term left)) (λ left. followed (meant f s l (tree_term right)) (λ right. followed (meant f s l (tree_term sigma)) (λ sigma.
    rewrite_told (options_of (given f s l options)) tau left right sigma))))
