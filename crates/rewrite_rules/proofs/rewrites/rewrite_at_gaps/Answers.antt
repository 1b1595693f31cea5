use Rattle.std.proofs.Common.{subst}
use Rattle.weighted_relations.specs.Relations.{Same}
use Rattle.weighted_relations.specs.RelationLaws.{same_trans}
use Rattle.weighted_relations.specs.Machines.{Reads}
use Rattle.rewrite_rules.specs.Gaps.{GoesWhole}
use Rattle.rewrite_rules.specs.Manners.{manner_of}
use Rattle.rewrite_rules.specs.Moves.{Run}
use Rattle.rewrite_rules.specs.Bimachine.{bimachine}
use Rattle.rewrite_rules.specs.PartsOf.{parts}
use Rattle.rewrite_rules.specs.declared.spots.Spot.TheVariants.{Hub}
use Rattle.rewrite_rules.proofs.Complete.{every_run}
use Rattle.rewrite_rules.proofs.Standing.{stands}
use Rattle.rewrite_rules.proofs.rewrites.rewrite_at_gaps.Goals as goal

pub returns-clause-readings : goal.returns-clause-readings
returns-clause-readings c =
    let tau = c.args.tau.now in
    let L = Reads c.args.left.now in
    let R = Reads c.args.right.now in
    let S = Reads c.args.sigma.now in
    let t = c.in_ok-automata.automata in
    let said = c.in_ok-automata.ensures in
    subst (λ m. Same (Reads c.in_ok-m.m) (GoesWhole (Reads tau) L R S (manner_of m))) said.mode
    (same_trans (Reads c.in_ok-m.m) (Run (bimachine (parts tau t)) Hub) (GoesWhole (Reads tau) L R S (manner_of t.mode)) c.in_ok-m.ensures.readings
    (every_run (parts tau t) L R S (stands tau t L R S said.texts c.requires.conditions said.sound.back said.sound.live)))
