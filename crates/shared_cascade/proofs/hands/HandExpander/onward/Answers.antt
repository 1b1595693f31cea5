use Rattle.std.proofs.Common.{sym, subst}
use Rattle.state_tuples.specs.Cascades.{Cascaded, IsOf}
use Rattle.state_tuples.specs.Calls.{IsOnward}
use Rattle.shared_cascade.proofs.hands.HandExpander.onward.Goals as goal

pub returns : goal.returns
returns c = record {
  told = λ d h o.
      let same = c.cascade_of.ensures.named d h o.number in
      subst (λ (v : Cascaded). IsOnward v c.args.t.now c.onward.result) same (c.onward.ensures.told (subst (λ (v : Cascaded). IsOf v c.args.t.now) (sym same) o));
}
