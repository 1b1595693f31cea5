use Rattle.fst_core.specs.Reach.{FollowedTo}
use Rattle.fst_core.proofs.search.Search.follow.Given as goal

abbrev pub invariant-loop-arc : goal.invariant-loop-arc
invariant-loop-arc l = FollowedTo l.a l.which l.initial.self l.s l.arc-index l.self
