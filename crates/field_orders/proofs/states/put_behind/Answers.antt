use Rattle.std.proofs.Common.{rules, ◌≡◌, ◌∙◌, ◌<◌, sym, ap, subst, length}
use Rattle.std.specs.Prelude.{All}
use Rattle.std.proofs.lemmas.Result.{IfOk-weaker}
use Rattle.field_orders.specs.Remainders.{Written, fields_then}
use Rattle.field_orders.specs.Sources.{Makes}
use Rattle.field_orders.proofs.Rows.{makes_behind}
use Rattle.field_orders.proofs.states.put_behind.Goals as goal

pub returns-clause-made : goal.returns-clause-made
returns-clause-made c =
    let q : Written = record { text = c.part.inside.text.items; inner = c.part.inside.inner.items; braced = c.part.inside.braced } in
    let inner : c.in_ok-inner.inner.items ≡ q.inner = search rules in
    IfOk-weaker c.put_fields-2.result _ _ (λ k h t a b.
    let own : All (λ i. i < length t) c.in_ok-inner.inner.items = subst (All (λ i. i < length t)) (sym (inner ∙ ap (λ p. p.inner) c.part.view_is)) b in
    let third : Makes t c.put_close.new.states c.put_fields-2.new.states c.in_ok-close.close k (fields_then q.inner) = subst (λ z. Makes t c.put_close.new.states c.put_fields-2.new.states c.in_ok-close.close k (fields_then z)) inner (h t own) in
    makes_behind t c.args.states.now c.put_fields.new.states c.put_close.new.states c.put_fields-2.new.states q c.args.part.now c.args.others.items c.args.next c.in_ok-after.after c.in_ok-close.close k c.part.view_is (c.in_ok-after.ensures.made t a) (c.in_ok-close.ensures.made t) third) c.put_fields-2.ensures.made
