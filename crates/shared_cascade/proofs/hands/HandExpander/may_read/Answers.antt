use Rattle.std.proofs.Common.{subst}
use Rattle.state_tuples.specs.Cascades.{Cascaded}
use Rattle.state_tuples.specs.Calls.{ReadsNot}
use Rattle.shared_cascade.proofs.hands.HandExpander.may_read.Goals as goal

pub returns : goal.returns
returns c = record { none = λ e d h n. subst (λ (v : Cascaded). ReadsNot v c.args.t.now c.args.label) (c.cascade_of.ensures.named d h n) (c.may_read.ensures.none e) }
