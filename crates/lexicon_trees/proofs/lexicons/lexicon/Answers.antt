use Rattle.std.proofs.Common.{arith, sym, subst}
use Rattle.weighted_relations.specs.Relations.{Same, Nothing}
use Rattle.weighted_relations.specs.RelationLaws.{any_more}
use Rattle.fst_core.specs.Top.{greatest, Under}
use Rattle.lexicon_trees.specs.declared.entries.Entry.{Entry}
use Rattle.lexicon_trees.specs.Entries.{ReadsEntry}
use Rattle.lexicon_trees.specs.Growing.{IsTree, TreeReads}
use Rattle.lexicon_trees.proofs.Walks.{first_tree, first_reads, first_under, weight_under, weights_below, tree_sound, all_entries, tree_top}
use Rattle.lexicon_trees.proofs.lexicons.lexicon.Goals as goal

pub loop-entry-init : goal.loop-entry-init
loop-entry-init c = record {
  tree = subst IsTree (sym c.in_ok-tree.ensures) first_tree;
  reads = subst (λ b. Same (TreeReads b) Nothing) (sym c.in_ok-tree.ensures) first_reads;
  under = subst (Under (greatest (λ (e : Entry). e.weight) c.args.entries.now)) (sym c.in_ok-tree.ensures) (first_under (greatest (λ (e : Entry). e.weight) c.args.entries.now));
}

pub loop-entry-preserved : goal.loop-entry-preserved
loop-entry-preserved c = record {
  tree = c.in_ok-add.ensures.tree;
  reads = any_more ReadsEntry c.args.entries.now c.loop-entry.entry-index c.entry-item.result (TreeReads c.loop-entry.tree) (TreeReads c.add.new.self) (omega arith) c.entry-item.is c.loop-entry.invariant.reads c.in_ok-add.ensures.reads;
  under = c.in_ok-add.ensures.under (greatest (λ (e : Entry). e.weight) c.args.entries.now) c.loop-entry.invariant.under (weight_under c.args.entries.now c.loop-entry.entry-index c.entry-item.result (omega arith) c.entry-item.is);
}

pub finish-requires : goal.finish-requires
finish-requires c = tree_sound c.loop-entry.tree (greatest (λ (e : Entry). e.weight) c.args.entries.now) c.loop-entry.invariant.tree c.loop-entry.invariant.under (weights_below c.args.entries.now c.requires.entries)

pub returns-clause-readings : goal.returns-clause-readings
returns-clause-readings c = all_entries c.args.entries.now c.loop-entry.entry-index c.loop-entry.tree c.finish.result (omega arith) c.finish.ensures c.loop-entry.invariant.reads

pub returns-clause-top : goal.returns-clause-top
returns-clause-top c = tree_top c.loop-entry.tree c.finish.result (greatest (λ (e : Entry). e.weight) c.args.entries.now) c.finish.ensures c.loop-entry.invariant.under
