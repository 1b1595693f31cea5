use Rattle.weighted_relations.specs.Relations.{Same}
use Rattle.weighted_relations.specs.RelationLaws.{same_refl, same_sym, same_trans}
use Rattle.weighted_relations.specs.Machines.{Reads}
use Rattle.weighted_relations.specs.Rewriting.{Rewritten}
use Rattle.rewrite_rules.specs.Gaps.{GoesWhole}
use Rattle.rewrite_rules.specs.Manners.{manner_of}
use Rattle.rewrite_rules.proofs.Gapless.{gapless}
use Rattle.rewrite_rules.proofs.Rewritings.{input_to, same_rewritten, unmarked_to}
use Rattle.rewrite_rules.proofs.rewrites.rewrite.Goals as goal

pub rewrite_at_gaps-requires : goal.rewrite_at_gaps-requires
rewrite_at_gaps-requires c = record {
  conditions = record {
    left = c.requires.left;
    right = c.requires.right;
    sigma = c.requires.sigma;
    sigma_unmarked = c.requires.sigma_unmarked;
    tau_unmarked = unmarked_to (Reads c.args.tau.now) (Reads c.in_ok-shared.shared) (same_sym (Reads c.in_ok-shared.shared) (Reads c.args.tau.now) c.in_ok-shared.ensures.readings) c.requires.tau_unmarked;
  };
}

pub returns-clause-readings : goal.returns-clause-readings
returns-clause-readings c =
    let T = Reads c.args.tau.now in
    let U = Reads c.in_ok-shared.shared in
    let L = Reads c.args.left.now in
    let R = Reads c.args.right.now in
    let S = Reads c.args.sigma.now in
    let manner = manner_of c.args.mode in
    let shared : Same U T = c.in_ok-shared.ensures.readings in
    same_trans (Reads c.in_ok-m.m) (Reads c.in_ok-all.all) (Rewritten T L R S manner) c.in_ok-m.ensures.readings
    (same_trans (Reads c.in_ok-all.all) (GoesWhole U L R S manner) (Rewritten T L R S manner) c.in_ok-all.ensures.readings
    (same_trans (GoesWhole U L R S manner) (Rewritten U L R S manner) (Rewritten T L R S manner) (gapless U L R (λ h. c.requires.tau_reads (input_to U T shared _ h)) S manner)
    (same_rewritten U L R S T L R S manner shared (same_refl L) (same_refl R) (same_refl S))))
