-- The exported names of a file with their expressions.
use Rattle.std.specs.Prelude.{ℕ, List, [], ◌∷◌, ◌++◌, map, if◌then◌else◌, Some, None, true, false}
use Rattle.std.specs.declared.option.Option.{Option}
use Rattle.std.specs.Str.{bytes_eq}
use Rattle.core_expressions.specs.Views.{expression_of}
use Rattle.weighted_relations.specs.Expressions.{Expression}
use Rattle.thrax_meaning.specs.declared.table.Entry.{Entry}
use Rattle.thrax_meaning.specs.declared.table.Kind.{Kind}
use Rattle.thrax_meaning.specs.declared.table.Kind.TheVariants as kind
use Rattle.thrax_link.specs.declared.grammar.Export.{Export}

-- a name and its expression
abbrev pub export_term : Export → List ℕ × Expression
export_term e = (e.name, expression_of e.value.value.expr)

-- names and their expressions
abbrev pub exports_of : List Export → List (List ℕ × Expression)
exports_of grammar = map export_term grammar

-- the expression of a name
abbrev pub expression_named : List (List ℕ × Expression) → List ℕ → Option Expression
expression_named [] name = None
expression_named (e ∷ es) name = if bytes_eq e.0 name then Some e.1 else expression_named es name

-- what an entry exports
abbrev pub exported_as : List ℕ → Kind → List (List ℕ × Expression)
exported_as name (kind.Value true v) = (name, expression_of v.value.expr) ∷ []
exported_as name (kind.Value false v) = []
exported_as name (kind.Function f) = []
exported_as name (kind.File k) = []

-- what a table exports
abbrev pub exported_entries : List Entry → List (List ℕ × Expression)
exported_entries [] = []
exported_entries (e ∷ es) = exported_as e.name e.kind ++ exported_entries es
