use Rattle.weighted_relations.specs.Machines.{Reads}
use Rattle.weighted_relations.specs.Relations.{IsInput}
use Rattle.std.proofs.Common.{None, Some}
use Rattle.shared_cascade.specs.Callers.{cascades_in}
use Rattle.normaliser.specs.Parts.{IsOutput}
use Rattle.normaliser.proofs.Searchings.{least_of}
use Rattle.normaliser.proofs.searching.output_of.Goals as goal

pub returns-in-Ok-Some-clause-output : goal.returns-in-Ok-Some-clause-output
returns-in-Ok-Some-clause-output c = λ n h.
    least_of (cascades_in c.args.shared.now) n c.args.start.now h (λ R. IsOutput R (IsInput (Reads c.args.source.now)) (Some c.in-Ok-Some.found.output))
    (λ k s. (c.in-Ok-Some.found.weight, (rw c.in-Ok-Some.field-0-is at c.in-Ok-Some.ensures.least) k s))

pub returns-in-Ok-None-clause-output : goal.returns-in-Ok-None-clause-output
returns-in-Ok-None-clause-output c = λ n h.
    least_of (cascades_in c.args.shared.now) n c.args.start.now h (λ R. IsOutput R (IsInput (Reads c.args.source.now)) None)
    (λ k s. (rw c.in-Ok-None.field-0-is at c.in-Ok-None.ensures.least) k s)
