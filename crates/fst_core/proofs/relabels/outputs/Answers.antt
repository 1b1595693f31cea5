use Rattle.weighted_relations.specs.Relations.{Outputs}
use Rattle.weighted_relations.specs.RelationLaws.{same_trans}
use Rattle.weighted_relations.specs.Machines.{Reads}
use Rattle.fst_core.specs.Placed.{Picked}
use Rattle.fst_core.specs.declared.builder.Kept.TheVariants.{Output}
use Rattle.fst_core.proofs.Relabelled.{picked_outputs}
use Rattle.fst_core.proofs.relabels.outputs.Goals as goal

pub returns-clause-readings : goal.returns-clause-readings
returns-clause-readings c = same_trans (Reads c.in_ok-m.m) (Picked Output Output (Reads c.args.a.now)) (Outputs (Reads c.args.a.now)) c.in_ok-m.ensures.readings (picked_outputs (Reads c.args.a.now))
