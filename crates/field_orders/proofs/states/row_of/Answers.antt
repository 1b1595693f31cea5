use Rattle.std.proofs.Common.{◌≡◌, ◌∙◌, ◌<◌, sym, ap, subst, length, Some}
use Rattle.std.specs.Prelude.{All, slice_get}
use Rattle.std.proofs.lemmas.Result.{IfOk-weaker}
use Rattle.field_orders.specs.declared.states.State.TheVariants.{Byte, Fields}
use Rattle.field_orders.specs.Remainders.{choices}
use Rattle.field_orders.specs.Sources.{RowSays, RowTo}
use Rattle.field_orders.proofs.Rows.{means_text, means_fields, means_within, row_byte, row_fields}
use Rattle.field_orders.proofs.states.row_of.Goals as goal

pub text_row-requires-clause-field : goal.text_row-requires-clause-field
text_row-requires-clause-field c =
    let m = c.requires.meant c.args.state c.requires.within in
    (means_text c.args.table.now c.args.states.now c.args.state c.in-Text.field c.in-Text.from c.in-Text.next (c.state.ensures.value ∙ ap Some c.in-Text.is) m.1).field

pub text_row-requires-clause-from : goal.text_row-requires-clause-from
text_row-requires-clause-from c =
    let m = c.requires.meant c.args.state c.requires.within in
    (means_text c.args.table.now c.args.states.now c.args.state c.in-Text.field c.in-Text.from c.in-Text.next (c.state.ensures.value ∙ ap Some c.in-Text.is) m.1).from

pub text_row-requires-clause-within : goal.text_row-requires-clause-within
text_row-requires-clause-within c =
    let m = c.requires.meant c.args.state c.requires.within in
    means_within c.args.table.now c.args.states.now c.in-Text.next (means_text c.args.table.now c.args.states.now c.args.state c.in-Text.field c.in-Text.from c.in-Text.next (c.state.ensures.value ∙ ap Some c.in-Text.is) m.1).means

pub field_row-requires-clause-left : goal.field_row-requires-clause-left
field_row-requires-clause-left c =
    let m = c.requires.meant c.args.state c.requires.within in
    let same : c.deref.result.now ≡ c.in-Fields.left = c.deref.ensures.value ∙ c.in_ok-left-in-Fields.ensures.items ∙ c.states.ensures.value in
    subst (All (λ i. i < length c.args.table.now)) (sym same) (means_fields c.args.table.now c.args.states.now c.args.state c.in-Fields.left c.in-Fields.next (c.state.ensures.value ∙ ap Some c.in-Fields.is) m.1).within

pub field_row-requires-clause-within : goal.field_row-requires-clause-within
field_row-requires-clause-within c =
    let m = c.requires.meant c.args.state c.requires.within in
    means_within c.args.table.now c.args.states.now c.in-Fields.next (means_fields c.args.table.now c.args.states.now c.args.state c.in-Fields.left c.in-Fields.next (c.state.ensures.value ∙ ap Some c.in-Fields.is) m.1).means

pub returns-in-Byte-clause-row : goal.returns-in-Byte-clause-row
returns-in-Byte-clause-row c =
    let e : slice_get c.args.states.now c.args.state ≡ Some (Byte c.in-Byte.byte c.in-Byte.next) = c.state.ensures.value ∙ ap Some c.in-Byte.is in
    IfOk-weaker c.one_arc.result _ _ (λ row h r m. subst (λ z. RowSays c.args.table.now c.args.keep c.args.states.now z r) (sym h) (row_byte c.args.table.now c.args.keep c.args.states.now c.args.state c.in-Byte.byte c.in-Byte.next r c.one_arc.ensures.small e m)) c.one_arc.ensures.row

pub returns-in-Text-clause-row : goal.returns-in-Text-clause-row
returns-in-Text-clause-row c =
    IfOk-weaker c.text_row.result _ _ (λ row h r m.
    let q = means_text c.args.table.now c.args.states.now c.args.state c.in-Text.field c.in-Text.from c.in-Text.next (c.state.ensures.value ∙ ap Some c.in-Text.is) m in
    subst (RowSays c.args.table.now c.args.keep c.text_row.new.states row.items) (sym q.is) (h c.args.keep q.after q.means)) c.text_row.ensures.row

pub returns-in_ok-left-in-Fields-clause-row : goal.returns-in_ok-left-in-Fields-clause-row
returns-in_ok-left-in-Fields-clause-row c =
    let e : slice_get c.args.states.now c.args.state ≡ Some (Fields c.in-Fields.left c.in-Fields.next) = c.state.ensures.value ∙ ap Some c.in-Fields.is in
    let same : c.deref.result.now ≡ c.in-Fields.left = c.deref.ensures.value ∙ c.in_ok-left-in-Fields.ensures.items ∙ c.states.ensures.value in
    IfOk-weaker c.field_row.result _ _ (λ row h r m. row_fields c.args.table.now c.args.keep c.args.states.now c.field_row.new.states c.args.state c.in-Fields.left c.in-Fields.next row.items r e (subst (λ z. RowTo c.args.table.now c.args.states.now c.field_row.new.states z c.in-Fields.next (choices c.args.keep z) row.items) same h) m) c.field_row.ensures.row
