use Rattle.std.proofs.lemmas.Result.{IfOk-weaker}
use Rattle.weighted_relations.specs.Machines.{Reads}
use Rattle.weighted_relations.specs.RelationLaws.{same_trans}
use Rattle.normaliser.proofs.preparing.prepared.Goals as goal

pub returns : goal.returns
returns c =
    let merged = same_trans (Reads c.in_ok-merged.merged) (Reads c.in_ok-live.live) (Reads c.args.fst) c.in_ok-merged.ensures c.in_ok-live.ensures.readings in
    let early = same_trans (Reads c.in_ok-early.early) (Reads c.in_ok-merged.merged) (Reads c.args.fst) c.in_ok-early.ensures merged in
    IfOk-weaker c.in_order.result _ _ (λ m f. same_trans (Reads m) (Reads c.in_ok-early.early) (Reads c.args.fst) f early) c.in_order.ensures
