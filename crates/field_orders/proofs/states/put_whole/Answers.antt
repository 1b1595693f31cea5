use Rattle.std.proofs.Common.{◌≡◌, ◌∙◌, ◌<◌, sym, ap, subst, length}
use Rattle.std.specs.Prelude.{All}
use Rattle.std.proofs.lemmas.Result.{IfOk-weaker}
use Rattle.field_orders.specs.Remainders.{Written, bytes_then, fields_then, field_at}
use Rattle.field_orders.specs.Sources.{Makes}
use Rattle.field_orders.proofs.Stating.{makes_both}
use Rattle.field_orders.proofs.Rows.{is_at}
use Rattle.field_orders.proofs.states.put_whole.Goals as goal

pub returns : goal.returns
returns c =
    let t = c.args.table.now in
    let p = field_at t c.args.root in
    let is : p ≡ c.index-table-root.result = is_at t c.args.root c.index-table-root.result c.requires.root c.index-table-root.is in
    let inner : c.in_ok-inner.inner.items ≡ p.inner = c.in_ok-inner.ensures.items ∙ c.deref.ensures.value ∙ ap (λ (q : Written). q.inner) (c.part.view_is ∙ sym is) in
    let own : All (λ i. i < length t) c.in_ok-inner.inner.items = subst (All (λ i. i < length t)) (sym inner) c.requires.inner in
    let first : Makes t c.args.states.now c.put_fields.new.states c.args.next c.in_ok-fields.fields (fields_then p.inner) = subst (λ z. Makes t c.args.states.now c.put_fields.new.states c.args.next c.in_ok-fields.fields (fields_then z)) inner (c.in_ok-fields.ensures.made t own) in
    record { made = IfOk-weaker c.put_text.result _ _ (λ k h. makes_both t c.args.states.now c.put_fields.new.states c.put_text.new.states c.args.next c.in_ok-fields.fields k (fields_then p.inner) (bytes_then p.text) first h) c.put_text.ensures.made }
