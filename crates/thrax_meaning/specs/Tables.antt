-- What tables of names stand for.
use Rattle.std.specs.Prelude.{ℕ, ◌+◌, ◌++◌, get_or, take, List, [], ◌∷◌, map, length}
use Rattle.norm_base.specs.Files.{Files}
use Rattle.core_expressions.specs.Views.{expression_of}
use Rattle.thrax_syntax.specs.Trees.{tree_term, local_term}
use Rattle.thrax_syntax.specs.declared.tree.Local as written
use Rattle.thrax_meaning.specs.declared.place.Place.{Place}
use Rattle.thrax_syntax.specs.declared.tree.Tree.{size-Tree}
use Rattle.thrax_meaning.specs.Meaning.{Scope, empty, bound, Meaning, value, function, file, function_of, Local}
use Rattle.thrax_meaning.specs.declared.table.Function.{Function}
use Rattle.thrax_meaning.specs.declared.table.Bound.{Bound}
use Rattle.thrax_meaning.specs.declared.table.Kind.{Kind}
use Rattle.thrax_meaning.specs.declared.table.Kind.TheVariants as kind
use Rattle.thrax_meaning.specs.declared.table.Entry.{Entry}

abbrev pub local_of : Bound → Local
local_of b = record { named = b.name; stands_for = expression_of b.value.value.expr }

-- what a function means where this scope is seen
abbrev pub meaning_of_function : Files → Scope → Function → Meaning
meaning_of_function f s d = function (length d.params.items) (function_of f s d.params.items (map local_term d.body.items) (tree_term d.result))

-- what an entry means where this scope is seen
abbrev pub meaning_of : Files → List Scope → Scope → Kind → Meaning
meaning_of f done s (kind.Value export v) = value export (expression_of v.value.expr)
meaning_of f done s (kind.Function d) = meaning_of_function f s d
meaning_of f done s (kind.File k) = file (get_or done k empty)

-- the scope after further entries
abbrev pub scope_after : Files → List Scope → Scope → List Entry → Scope
scope_after f done s [] = s
scope_after f done s (e ∷ es) = scope_after f done (bound e.name (meaning_of f done s e.kind) s) es

-- the scope of a file, over the scopes of the files that it may import
abbrev pub scope_of : Files → List Scope → List Entry → Scope
scope_of f done es = scope_after f done empty es

-- the scopes of finished files, each over those before it
abbrev pub scopes_after : Files → List Scope → List (List Entry) → List Scope
scopes_after f done [] = done
scopes_after f done (t ∷ ts) = scopes_after f (done ++ scope_of f done t ∷ []) ts

abbrev pub scopes_of : Files → List (List Entry) → List Scope
scopes_of f ts = scopes_after f [] ts

-- the scope of a file over finished files
abbrev pub scope_over : Files → List (List Entry) → List Entry → Scope
scope_over f ts es = scope_of f (scopes_of f ts) es

-- the scope at a place of a file
abbrev pub scope_at : Files → Place → Scope
scope_at f p = scope_over f p.files.now (take p.count p.table.now)

-- the names of the function that is called there
abbrev pub locals_at : Place → List Local
locals_at p = map local_of p.locals.now

-- what taking a call can come down through

-- the trees of a function's local names together
abbrev pub body_size : List written.Local → ℕ
body_size [] = 0
body_size (l ∷ ls) = 1 + size-Tree l.value + body_size ls

abbrev pub kind_weight : Kind → ℕ
kind_weight (kind.Value export v) = 0
kind_weight (kind.Function d) = 1 + body_size d.body.items + size-Tree d.result
kind_weight (kind.File k) = 0

abbrev pub weight : List Entry → ℕ
weight [] = 0
weight (e ∷ es) = kind_weight e.kind + weight es

abbrev pub weights : List (List Entry) → ℕ
weights [] = 0
weights (t ∷ ts) = weight t + weights ts

abbrev pub place_weight : Place → ℕ
place_weight p = weights p.files.now + weight (take p.count p.table.now)
