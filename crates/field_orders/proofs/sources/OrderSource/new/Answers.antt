use Rattle.std.proofs.Common.{rules, ◌≡◌, ◌<◌, All, length, subst, sym, [], ◌∷◌}
use Rattle.field_orders.specs.Remainders.{bytes_then, fields_then, field_at}
use Rattle.field_orders.specs.Sources.{Makes}
use Rattle.field_orders.proofs.Beginnings.{begun, begun_reads, source_begun}
use Rattle.token_record.specs.Fields.{chain, field_of}
use Rattle.std.proofs.Common.{map, ◌++◌}
use Rattle.field_orders.specs.Tables.{NumbersOf}
use Rattle.field_orders.proofs.sources.OrderSource.new.Goals as goal

pub put_whole-requires-clause-inner : goal.put_whole-requires-clause-inner
put_whole-requires-clause-inner c =
    let text : c.push.new.self.items ≡ c.args.r.now.class ++ 124 ∷ [] = search rules in
    let b = begun c.args.r.now c.new-table.result.items c.number_fields.new.table.items c.add.new.table.items c.push.new.self.items c.in_ok-inner.inner.items c.in_ok-root.root c.requires.orderable c.new-table.ensures.items c.in_ok-inner.ensures.table (subst (λ z. NumbersOf c.number_fields.new.table.items c.in_ok-inner.inner.items (chain (map field_of z))) c.deref.ensures.value c.in_ok-inner.ensures.numbers) text c.in_ok-root.ensures.added in
    subst (λ z. All (λ i. i < length z) (field_at z c.in_ok-root.root).inner) (sym c.deref-2.ensures.value) b.inner

pub returns-clause-source : goal.returns-clause-source
returns-clause-source c =
    let text : c.push.new.self.items ≡ c.args.r.now.class ++ 124 ∷ [] = search rules in
    let b = begun c.args.r.now c.new-table.result.items c.number_fields.new.table.items c.add.new.table.items c.push.new.self.items c.in_ok-inner.inner.items c.in_ok-root.root c.requires.orderable c.new-table.ensures.items c.in_ok-inner.ensures.table (subst (λ z. NumbersOf c.number_fields.new.table.items c.in_ok-inner.inner.items (chain (map field_of z))) c.deref.ensures.value c.in_ok-inner.ensures.numbers) text c.in_ok-root.ensures.added in
    source_begun c.add.new.table.items c.args.r.now.keep c.in_ok-states.states c.put.new.self c.put_whole.new.states c.in_ok-end.end c.in_ok-start.start c.in_ok-root.root b.written c.in_ok-states.ensures.value c.in_ok-end.ensures.number
    (subst (λ z. Makes z c.put.new.self c.put_whole.new.states c.in_ok-end.end c.in_ok-start.start (λ r. bytes_then (field_at z c.in_ok-root.root).text (fields_then (field_at z c.in_ok-root.root).inner r))) c.deref-2.ensures.value c.in_ok-start.ensures.made)

pub returns-clause-readings : goal.returns-clause-readings
returns-clause-readings c =
    let text : c.push.new.self.items ≡ c.args.r.now.class ++ 124 ∷ [] = search rules in
    let b = begun c.args.r.now c.new-table.result.items c.number_fields.new.table.items c.add.new.table.items c.push.new.self.items c.in_ok-inner.inner.items c.in_ok-root.root c.requires.orderable c.new-table.ensures.items c.in_ok-inner.ensures.table (subst (λ z. NumbersOf c.number_fields.new.table.items c.in_ok-inner.inner.items (chain (map field_of z))) c.deref.ensures.value c.in_ok-inner.ensures.numbers) text c.in_ok-root.ensures.added in
    begun_reads c.args.r.now c.add.new.table.items c.in_ok-root.root b
