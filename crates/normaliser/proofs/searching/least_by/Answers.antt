use Rattle.shared_cascade.specs.Callers.{cascades_in}
use Rattle.shared_cascade.specs.HandLaws.{own_numbers}
use Rattle.normaliser.proofs.Looking.{looked_still}
use Rattle.normaliser.proofs.Searchings.{err_stopped, still_after, writes_bytes}
use Rattle.normaliser.proofs.searching.least_by.Goals as goal

pub least_in-requires-clause-bytes : goal.least_in-requires-clause-bytes
least_in-requires-clause-bytes c =
    let b = c.requires.begins in
    writes_bytes (cascades_in c.args.hand.now.shared.now) b.0 c.args.start.now b.1 (own_numbers c.args.hand.now) b.2

pub returns-clause-still : goal.returns-clause-still
returns-clause-still c = still_after _ _ c.least_in.result c.least_in.ensures.on c.least_in.ensures.up

pub returns-clause-stopped : goal.returns-clause-stopped
returns-clause-stopped c = err_stopped _ _ c.least_in.result c.least_in.ensures.up

pub returns-clause-looks : goal.returns-clause-looks
returns-clause-looks c = looked_still _ _ c.args.source.now c.least_in.result (still_after _ _ c.least_in.result c.least_in.ensures.on c.least_in.ensures.up) c.least_in.ensures.calls
