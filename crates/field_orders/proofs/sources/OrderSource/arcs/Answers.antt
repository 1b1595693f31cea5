use Rattle.std.proofs.Common.{◌≡◌, ◌∙◌, ◌<◌, sym, ap, subst, length}
use Rattle.field_orders.specs.Remainders.{AreWritten, Rest}
use Rattle.field_orders.specs.Sources.{Source, Grew, AllMean, IsSource, Means, RowSays}
use Rattle.field_orders.proofs.Beginnings.{source_grew}
use Rattle.field_orders.proofs.Exploring.{row_within}
use Rattle.field_orders.proofs.sources.OrderSource.arcs.Goals as goal

pub row_of-requires-clause-written : goal.row_of-requires-clause-written
row_of-requires-clause-written c =
    let t : c.deref.result.now ≡ c.args.self.now.table = c.deref.ensures.value ∙ ap (λ (z : Source). z.table) c.self.view_is in
    subst AreWritten (sym t) c.requires.source.written

pub row_of-requires-clause-meant : goal.row_of-requires-clause-meant
row_of-requires-clause-meant c =
    let t : c.deref.result.now ≡ c.args.self.now.table = c.deref.ensures.value ∙ ap (λ (z : Source). z.table) c.self.view_is in
    let s : c.self.inside.states ≡ c.args.self.now.states = ap (λ (z : Source). z.states) c.self.view_is in
    subst (λ v. AllMean v c.self.inside.states) (sym t) (subst (AllMean c.args.self.now.table) (sym s) c.requires.source.meant)

pub returns-clause-source : goal.returns-clause-source
returns-clause-source c =
    let was = subst IsSource (sym c.self.view_is) c.requires.source in
    source_grew c.self.inside.table.items c.self.inside.keep c.self.inside.states c.row_of.new.states c.self.inside.start c.self.inside.root was (subst (λ v. Grew v c.self.inside.states c.row_of.new.states) c.deref.ensures.value c.in_ok-row.ensures.grew)

pub returns-clause-within : goal.returns-clause-within
returns-clause-within c =
    let was = subst IsSource (sym c.self.view_is) c.requires.source in
    let said : (r : Rest) → Means c.self.inside.table.items c.self.inside.states c.args.state r → RowSays c.self.inside.table.items c.self.inside.keep c.row_of.new.states c.in_ok-row.row.items r = subst (λ t. (r : Rest) → Means t c.self.inside.states c.args.state r → RowSays t c.self.inside.keep c.row_of.new.states c.in_ok-row.row.items r) c.deref.ensures.value c.in_ok-row.ensures.row in
    let old : Source = record { table = c.self.inside.table.items; keep = c.self.inside.keep; states = c.self.inside.states; start = c.self.inside.start; root = c.self.inside.root } in
    let new : Source = record { table = c.self.inside.table.items; keep = c.self.inside.keep; states = c.row_of.new.states; start = c.self.inside.start; root = c.self.inside.root } in
    let l : c.args.state < length c.self.inside.states = subst (λ (z : Source). c.args.state < length z.states) (sym c.self.view_is) c.requires.state in
    row_within old c.args.state c.in_ok-row.row.items new was l said
