use Rattle.std.proofs.Common.{IfOk, sym, subst}
use Rattle.weighted_relations.specs.Relations.{Same}
use Rattle.weighted_relations.specs.Machines.{Reads}
use Rattle.fst_core.specs.Sides.{Projected}
use Rattle.fst_core.proofs.relabels.project.Goals as goal

pub returns-in-Input-clause-readings : goal.returns-in-Input-clause-readings
returns-in-Input-clause-readings c = subst (λ s. IfOk c.inputs.result (λ m. Same (Reads m) (Projected s (Reads c.args.a.now)))) (sym c.in-Input.is) c.inputs.ensures.readings

pub returns-in-Output-clause-readings : goal.returns-in-Output-clause-readings
returns-in-Output-clause-readings c = subst (λ s. IfOk c.outputs.result (λ m. Same (Reads m) (Projected s (Reads c.args.a.now)))) (sym c.in-Output.is) c.outputs.ensures.readings
