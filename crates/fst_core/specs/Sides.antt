-- One list of each reading.
use Rattle.weighted_relations.specs.Relations.{Relation, Inputs, Outputs}
use Rattle.fst_core.specs.declared.relabels.Side2.{Side2}
use Rattle.fst_core.specs.declared.relabels.Side2.TheVariants.{Input, Output}

abbrev pub Projected : Side2 → Relation → Relation
Projected Input R = Inputs R
Projected Output R = Outputs R
