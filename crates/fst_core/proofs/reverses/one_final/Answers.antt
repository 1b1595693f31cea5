use Rattle.std.proofs.Common.{ap, ◌∙◌, inl, inr}
use Rattle.fst_core.specs.States.{with_state}
use Rattle.fst_core.proofs.Turns.{one_more, one_none}
use Rattle.fst_core.proofs.reverses.one_final.Goals as goal
use Rattle.fst_core.proofs.reverses.one_final.Goals.{then-s-at, else-s-at}

pub loop-s-init : goal.loop-s-init
loop-s-init c = one_none c.args.at c.new-built.result c.new-built.ensures.value

pub loop-s-preserved : goal.loop-s-preserved
loop-s-preserved c =
    one_more c.args.at c.loop-s.s c.loop-s.built c.push.new.self c.if-s-at.push c.loop-s.invariant (c.in_ok-push.ensures.value ∙ ap (λ r. with_state c.loop-s.built r c.if-s-at.push) c.new.ensures.items)
    (elim c.if-s-at.branch [ then-s-at w ↦ inl (w.if-s-at.true, w.push-is) | else-s-at w ↦ inr (w.if-s-at.false, w.push-is) ])
