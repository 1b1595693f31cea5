use Rattle.std.proofs.Common.{◌≡◌, ◌<◌, length, subst, ap, sym}
use Rattle.field_orders.specs.Sources.{Source}
use Rattle.field_orders.proofs.Rows.{means_within}
use Rattle.field_orders.proofs.sources.OrderSource.start.Goals as goal

pub returns-clause-within : goal.returns-clause-within
returns-clause-within c =
    let n : c.self.inside.start ≡ c.args.self.now.start = ap (λ (z : Source). z.start) c.self.view_is in
    subst (λ k. k < length c.args.self.now.states) (sym n) (means_within c.args.self.now.table c.args.self.now.states c.args.self.now.start c.requires.source.first)
