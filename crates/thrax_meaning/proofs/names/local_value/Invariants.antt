use Rattle.std.proofs.Common.{◌≡◌, length, map}
use Rattle.thrax_meaning.specs.Meaning.{local}
use Rattle.thrax_meaning.specs.Tables.{local_of}
use Rattle.thrax_meaning.proofs.names.local_value.Given as goal

abbrev pub invariant-loop-rest : goal.invariant-loop-rest
invariant-loop-rest l = local (map local_of l.rest) l.name ≡ local (map local_of l.locals) l.name

abbrev pub decreases-loop-rest : goal.decreases-loop-rest
decreases-loop-rest l = length l.rest
