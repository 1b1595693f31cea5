use Rattle.std.proofs.Common.{List, Vec, Global, subst}
use Rattle.std.specs.Prelude.{IfSome}
use Rattle.weighted_relations.specs.Relations.{Same, AnyOf}
use Rattle.weighted_relations.specs.Machines.{Reads}
use Rattle.lexicon_trees.specs.declared.entries.Entry.{Entry}
use Rattle.lexicon_trees.specs.Entries.{ReadsEntry}
use Rattle.rewrite_rules.proofs.Rewritings.{turned_twice}
use Rattle.rewrite_rules.proofs.shared_ends.tree_of_ends.Goals as goal

pub returns : goal.returns
returns c =
    let R = Reads c.args.a.now in
    let B = Reads c.in_ok-back.back in
    let T = Reads c.in_ok-tree.tree in
    let listed : Same B (AnyOf ReadsEntry c.in-Some.entries.items) = subst (λ o. IfSome o (λ (v : Vec Entry Global). Same B (AnyOf ReadsEntry v.items))) c.in-Some.is c.in_ok-entries.ensures.readings in
    let tree : Same T (AnyOf ReadsEntry c.in-Some.entries.items) = subst (λ (v : List Entry). Same T (AnyOf ReadsEntry v)) c.deref.ensures.value c.in_ok-tree.ensures.readings in
    record { readings = turned_twice R B T (AnyOf ReadsEntry c.in-Some.entries.items) (Reads c.in_ok-m.m) c.in_ok-back.ensures.readings listed tree c.in_ok-m.ensures.readings }
