use Rattle.std.proofs.Common.{take}
use Rattle.weighted_relations.specs.Relations.{Same, AnyOf}
use Rattle.fst_core.specs.Top.{greatest, Under}
use Rattle.lexicon_trees.specs.declared.entries.Entry.{Entry}
use Rattle.lexicon_trees.specs.Entries.{ReadsEntry}
use Rattle.lexicon_trees.specs.Growing.{IsTree, TreeReads}
use Rattle.lexicon_trees.proofs.lexicons.lexicon.Given as goal

abbrev pub invariant-loop-entry : goal.invariant-loop-entry
invariant-loop-entry l = record {
  tree : IsTree l.tree;
  reads : Same (TreeReads l.tree) (AnyOf ReadsEntry (take l.entry-index l.entries));
  under : Under (greatest (λ (e : Entry). e.weight) l.entries) l.tree;
}
