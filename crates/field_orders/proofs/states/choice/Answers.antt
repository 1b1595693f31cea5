use Rattle.std.proofs.Common.{rules, ◌≡◌, ◌∙◌, ◌<◌, ◌≤◌, sym, ap, subst, length, get_or}
use Rattle.weighted_relations.specs.declared.Arc.{Arc}
use Rattle.field_orders.specs.Remainders.{taken}
use Rattle.field_orders.specs.Sources.{ArcSays}
use Rattle.field_orders.proofs.Stating.{grew_trans}
use Rattle.field_orders.proofs.Rows.{is_at, is_there, taken_says, any_default}
use Rattle.field_orders.proofs.states.choice.Goals as goal

pub index-byte-requires : goal.index-byte-requires
index-byte-requires c =
    let w = c.requires.written c.args.field c.index-table-field.result (is_there c.args.table.now c.args.field c.index-table-field.result c.requires.field c.index-table-field.is) in
    let some : 0 < length c.part.inside.text.items = subst (λ p. 0 < length p.text) (sym c.part.view_is) w.some in
    search rules

pub returns-clause-grew : goal.returns-clause-grew
returns-clause-grew c =
    let t = c.args.table.now in
    let w = c.requires.written c.args.field c.index-table-field.result (is_there t c.args.field c.index-table-field.result c.requires.field c.index-table-field.is) in
    let a = c.in_ok-after.ensures.made t c.requires.others w.inner in
    let b = c.in_ok-to.ensures.made in
    grew_trans t c.args.states.now c.put_behind.new.states c.put_text.new.states a.grew b.grew

pub returns-clause-arc : goal.returns-clause-arc
returns-clause-arc c r m =
    let t = c.args.table.now in
    let p = c.index-table-field.result in
    let w = c.requires.written c.args.field p (is_there t c.args.field p c.requires.field c.index-table-field.is) in
    let some : 0 < length c.part.inside.text.items = subst (λ q. 0 < length q.text) (sym c.part.view_is) w.some in
    let a = c.in_ok-after.ensures.made t c.requires.others w.inner in
    let b = c.in_ok-to.ensures.made in
    let small : c.index-byte.result.now ≤ 255 = subst (λ (z : Arc). z.input ≤ 255) c.byte_arc.ensures.arc c.byte_arc.ensures.small in
    let is : c.index-byte.result.now ≡ get_or p.text 0 0 = c.index-byte.ensures ∙ any_default c.part.inside.text.items 0 c.index-byte.result.now 0 some ∙ ap (λ q. get_or q.text 0 0) c.part.view_is in
    subst (λ z. ArcSays t c.put_text.new.states z (taken t c.args.field c.args.others.items r)) (sym c.byte_arc.ensures.arc)
    (taken_says t c.args.states.now c.put_behind.new.states c.put_text.new.states p c.args.field c.args.others.items c.index-byte.result.now c.args.next c.in_ok-after.after c.in_ok-to.to (is_at t c.args.field p c.requires.field c.index-table-field.is) small is a b r m)
