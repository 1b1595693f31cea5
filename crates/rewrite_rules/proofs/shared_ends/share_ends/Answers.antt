use Rattle.std.proofs.Common.{subst}
use Rattle.std.specs.Prelude.{IfSome}
use Rattle.weighted_relations.specs.Relations.{Same}
use Rattle.weighted_relations.specs.RelationLaws.{same_trans}
use Rattle.weighted_relations.specs.Machines.{Machine, Reads}
use Rattle.rewrite_rules.proofs.shared_ends.share_ends.Goals as goal

pub returns-clause-readings : goal.returns-clause-readings
returns-clause-readings c =
    let a = c.in_ok-trimmed.trimmed in
    let same : Same (Reads c.in-Some.tree) (Reads a) = subst (λ o. IfSome o (λ (m : Machine). Same (Reads m) (Reads a))) c.in-Some.is c.in_ok-tree.ensures.readings in
    same_trans (Reads c.in-Some.tree) (Reads a) (Reads c.args.a.now) same c.in_ok-trimmed.ensures.readings
