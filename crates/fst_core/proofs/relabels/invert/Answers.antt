use Rattle.weighted_relations.specs.Relations.{Inverted}
use Rattle.weighted_relations.specs.RelationLaws.{same_trans}
use Rattle.weighted_relations.specs.Machines.{Reads}
use Rattle.fst_core.specs.Placed.{Picked}
use Rattle.fst_core.specs.declared.builder.Kept.TheVariants.{Input, Output}
use Rattle.fst_core.proofs.Relabelled.{picked_inverted}
use Rattle.fst_core.proofs.relabels.invert.Goals as goal

pub returns-clause-readings : goal.returns-clause-readings
returns-clause-readings c = same_trans (Reads c.in_ok-m.m) (Picked Output Input (Reads c.args.a.now)) (Inverted (Reads c.args.a.now)) c.in_ok-m.ensures.readings (picked_inverted (Reads c.args.a.now))
