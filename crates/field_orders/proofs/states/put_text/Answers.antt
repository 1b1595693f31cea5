use Rattle.std.proofs.Common.{rules, ◌≡◌, ◌∙◌, ◌<◌, sym, subst, length}
use Rattle.std.proofs.lemmas.Result.{IfOk-weaker}
use Rattle.field_orders.specs.Remainders.{field_at}
use Rattle.field_orders.proofs.Stating.{makes_text}
use Rattle.field_orders.proofs.Rows.{is_at}
use Rattle.field_orders.proofs.states.put_text.Goals as goal

pub returns-clause-made : goal.returns-clause-made
returns-clause-made c =
    let is : field_at c.args.table.now c.args.field ≡ c.index-table-field.result = is_at c.args.table.now c.args.field c.index-table-field.result c.requires.field c.index-table-field.is in
    let long : c.args.from < length c.part.inside.text.items = search rules in
    let from : c.args.from < length (field_at c.args.table.now c.args.field).text = subst (λ p. c.args.from < length p.text) (c.part.view_is ∙ sym is) long in
    IfOk-weaker c.put.result _ _ (λ k h. makes_text c.args.table.now c.args.states.now c.put.new.self c.args.field c.args.from c.args.next k c.requires.field from h c.requires.within) c.put.ensures.number
