-- The members of a union: entries of a lexicon, and others.
use Rattle.std.specs.Prelude.{◌≤◌, ◌+◌, ℕ, List, All, sum_by}
use Rattle.weighted_relations.specs.Relations.{Same, Either, AnyOf}
use Rattle.weighted_relations.specs.Machines.{Machine, Reads}
use Rattle.weighted_relations.specs.Expressions.{Expression, Rel, RelAny, members, literals, all_literals}
use Rattle.fst_core.specs.Top.{top_of}
use Rattle.lexicon_trees.specs.declared.entries.Entry.{Entry}
use Rattle.lexicon_trees.specs.Entries.{ReadsEntry, IsEntry}
use Rattle.grammar_build.specs.Empties.{RewritesEmptyText, OneRewritesEmptyText}

abbrev pub weight_of : Entry → ℕ
weight_of e = e.weight

-- an entry with the one reading of an expression
pub record IsEntryOf (entry : Entry) (e : Expression) : Type 0 where
  pub sound : IsEntry entry
  pub reads : Same (ReadsEntry entry) (Rel e)
  pub weight : entry.weight ≤ literals e
  pub complete : RewritesEmptyText e → ⊥

-- entries and transducers that have the readings of these members together
pub record Parted (es : List Expression) (entries : List Entry) (others : List Machine) : Type 0 where
  pub sound : All IsEntry entries
  pub reads : Same (Either (AnyOf ReadsEntry entries) (AnyOf Reads others)) (RelAny (members es))
  pub top : sum_by weight_of entries + sum_by top_of others ≤ all_literals (members es)
  pub complete : OneRewritesEmptyText (members es) → ⊥
