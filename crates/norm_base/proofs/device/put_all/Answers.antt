use Rattle.std.proofs.Common.{rules}
use Rattle.std.proofs.lemmas.List.{take_rest}
use Rattle.norm_base.proofs.Front.{front_more}
use Rattle.norm_base.proofs.device.put_all.Goals as goal

pub loop-rest-preserved : goal.loop-rest-preserved
loop-rest-preserved g c =
    (rw take_rest (front_more _ _ _ _ _ _ c.loop-rest.invariant.0 c.in_ok-count.ensures.bytes), search rules)
