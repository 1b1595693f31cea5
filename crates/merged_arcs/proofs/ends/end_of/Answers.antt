use Rattle.std.proofs.Common.{get_or, arith}
use Rattle.std.proofs.lemmas.List.Elements.{Contains-get_or}
use Rattle.merged_arcs.proofs.Gathering.{end_all}
use Rattle.merged_arcs.proofs.ends.end_of.Goals as goal

pub final_of-requires : goal.final_of-requires
final_of-requires c = record { state = c.requires.within (get_or c.args.set.now c.loop-s.s-index 0) (Contains-get_or c.args.set.now c.loop-s.s-index 0 c.loop-s-test.true) }

pub returns-clause-common : goal.returns-clause-common
returns-clause-common c = end_all c.args.a.now c.args.set.now c.loop-s.s-index c.loop-s.last (omega arith) c.loop-s.invariant
