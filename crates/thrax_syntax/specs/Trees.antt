-- The trees and statements that values stand for: lists in place of vectors, and a name is its bytes.
use Rattle.std.specs.Prelude.{Bool, ℕ, List, [], ◌∷◌, map}
use Rattle.thrax_syntax.specs.declared.tree.File.{File}
use Rattle.thrax_syntax.specs.declared.tree.Statement.{Statement}
use Rattle.thrax_syntax.specs.declared.tree.Statement.TheVariants.{Import, Define, Func}
use Rattle.thrax_syntax.specs.declared.tree.Local.{Local}
use Rattle.thrax_syntax.specs.declared.tree.Tree.{Tree}
use Rattle.thrax_syntax.specs.declared.tree.Tree.TheOpen.{Tree-F, Text, Quoted, Use, Member, Call, CallMember, Union, Concat, Cross, Compose, Minus, Weighted, Star, Plus, Maybe, Times}
use Rattle.thrax_syntax.specs.declared.tree.Tree.TheFolds.{fold-Tree}

mutual
  pub data TreeTerm : Type 0 where
    text : List ℕ → TreeTerm
    quoted : List ℕ → TreeTerm
    use_of : List ℕ → TreeTerm
    member : List ℕ → List ℕ → TreeTerm
    call : List ℕ → TreeTerms → TreeTerm
    call_member : List ℕ → List ℕ → TreeTerms → TreeTerm
    union : TreeTerms → TreeTerm
    concat : TreeTerms → TreeTerm
    cross : TreeTerm → TreeTerm → TreeTerm
    compose : TreeTerm → TreeTerm → TreeTerm
    minus : TreeTerm → TreeTerm → TreeTerm
    weighted : TreeTerm → ℕ → TreeTerm
    star : TreeTerm → TreeTerm
    plus : TreeTerm → TreeTerm
    maybe : TreeTerm → TreeTerm
    times : TreeTerm → ℕ → ℕ → TreeTerm

  pub data TreeTerms : Type 0 where
    no_terms : TreeTerms
    term : TreeTerm → TreeTerms → TreeTerms

abbrev pub terms : List TreeTerm → TreeTerms
terms [] = no_terms
terms (t ∷ ts) = term t (terms ts)

-- a name that a function gives to a tree inside its body
pub record LocalTerm : Type 0 where
  pub name : List ℕ
  pub value : TreeTerm

-- import_of file alias, define exported name value, func name parameters body result
pub data StatementTerm : Type 0 where
  import_of : List ℕ → List ℕ → StatementTerm
  define : Bool → List ℕ → TreeTerm → StatementTerm
  func : List ℕ → List (List ℕ) → List LocalTerm → TreeTerm → StatementTerm

-- one level of a tree, with the terms of its members in their places
abbrev pub tree_step : Tree-F TreeTerm → TreeTerm
tree_step (Text labels) = text labels.items
tree_step (Quoted bytes) = quoted bytes
tree_step (Use name) = use_of name
tree_step (Member alias name) = member alias name
tree_step (Call name arguments) = call name (terms arguments.items)
tree_step (CallMember alias name arguments) = call_member alias name (terms arguments.items)
tree_step (Union members) = union (terms members.items)
tree_step (Concat members) = concat (terms members.items)
tree_step (Cross input output) = cross input.value output.value
tree_step (Compose first second) = compose first.value second.value
tree_step (Minus all without) = minus all.value without.value
tree_step (Weighted tree weight) = weighted tree.value weight
tree_step (Star tree) = star tree.value
tree_step (Plus tree) = plus tree.value
tree_step (Maybe tree) = maybe tree.value
tree_step (Times tree least most) = times tree.value least most

abbrev pub tree_term : Tree → TreeTerm
tree_term = fold-Tree TreeTerm tree_step

abbrev pub local_term : Local → LocalTerm
local_term l = record { name = l.name; value = tree_term l.value }

abbrev pub statement_term : Statement → StatementTerm
statement_term (Import file alias) = import_of file alias
statement_term (Define export name value) = define export name (tree_term value)
statement_term (Func name params body result) = func name params.items (map local_term body.items) (tree_term result)

abbrev pub file_term : File → List StatementTerm
file_term file = map statement_term file.statements.items
