use Rattle.std.proofs.Common.{◌≡◌, map}
use Rattle.checked_expressions.specs.Answers.{shared_of}
use Rattle.thrax_meaning.specs.Meaning.{bind}
use Rattle.thrax_meaning.specs.Tables.{local_of}
use Rattle.thrax_meaning.proofs.taking.bound.Given as goal

abbrev pub invariant-loop-value : goal.invariant-loop-value
invariant-loop-value l = bind l.params (map shared_of l.yielded) ≡ map local_of l.all.items
