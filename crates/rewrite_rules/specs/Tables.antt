-- What holds of the tables that the machine is made of.
use Rattle.std.specs.Prelude.{length}
use Rattle.weighted_relations.specs.Machines.{Machine, WellFormed}
use Rattle.rewrite_rules.specs.PartsOf.{AreSound}
use Rattle.rewrite_rules.specs.Classes.{AreClasses}
use Rattle.rewrite_rules.specs.Befores.{AreBefore}
use Rattle.rewrite_rules.specs.declared.arcs.Tables.{Tables}

pub record Ready (m : Machine) (t : Tables) : Type 0 where
  pub tau : WellFormed m
  pub automata : AreSound t.automata
  pub classes : AreClasses t.automata t.classes
  pub befores : AreBefore t.automata t.classes (length t.classes.members) t.befores
