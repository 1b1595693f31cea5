use Rattle.std.proofs.Common.{◌≡◌, All, take}
use Rattle.weighted_relations.specs.Relations.{IsLabel}
use Rattle.normaliser.proofs.classifying.labels.Given as goal

abbrev pub invariant-loop-b : goal.invariant-loop-b
invariant-loop-b l = (l.labels.items ≡ take l.b-index l.line) × All IsLabel l.labels.items
