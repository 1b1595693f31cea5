use Rattle.std.proofs.Common.{◌≡◌, ap, subst, Some}
use Rattle.std.specs.Prelude.{slice_get}
use Rattle.field_orders.specs.Sources.{Source}
use Rattle.field_orders.proofs.Beginnings.{not_final}
use Rattle.field_orders.proofs.sources.OrderSource.is_final.Goals as goal

pub returns-in_default : goal.returns-in_default
returns-in_default c = record {
  last = λ r m.
      let s : c.self.inside.states ≡ c.args.self.now.states = ap (λ (z : Source). z.states) c.self.view_is in
      not_final c.args.self.now.table c.args.self.now.states c.args.state c.state.result.now c.in_default.not-End (subst (λ z. slice_get z c.args.state ≡ Some c.state.result.now) s c.state.ensures.value) m;
}
