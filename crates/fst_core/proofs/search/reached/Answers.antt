use Rattle.fst_core.proofs.Searches.{reached_of}
use Rattle.fst_core.proofs.search.reached.Goals as goal

pub returns : goal.returns
returns c = record { states = reached_of c.args.a.now c.args.which c.len.result c.start.result c.in_ok-search.search c.add.new.self c.run.new.self c.len.ensures.count c.start.ensures.value c.in_ok-search.ensures.value c.in_ok-add.ensures.added c.in_ok-run.ensures.size c.in_ok-run.ensures.found }
