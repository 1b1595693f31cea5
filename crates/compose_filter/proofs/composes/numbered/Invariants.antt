use Rattle.compose_filter.specs.Numbered.{RowMade}
use Rattle.compose_filter.proofs.composes.numbered.Given as goal

abbrev pub invariant-loop-m : goal.invariant-loop-m
invariant-loop-m l = RowMade l.initial.triples l.triples l.found l.m-index l.row.items
