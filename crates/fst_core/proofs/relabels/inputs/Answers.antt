use Rattle.weighted_relations.specs.Relations.{Inputs}
use Rattle.weighted_relations.specs.RelationLaws.{same_trans}
use Rattle.weighted_relations.specs.Machines.{Reads}
use Rattle.fst_core.specs.Placed.{Picked}
use Rattle.fst_core.specs.declared.builder.Kept.TheVariants.{Input}
use Rattle.fst_core.proofs.Relabelled.{picked_inputs}
use Rattle.fst_core.proofs.relabels.inputs.Goals as goal

pub returns-clause-readings : goal.returns-clause-readings
returns-clause-readings c = same_trans (Reads c.in_ok-m.m) (Picked Input Input (Reads c.args.a.now)) (Inputs (Reads c.args.a.now)) c.in_ok-m.ensures.readings (picked_inputs (Reads c.args.a.now))
