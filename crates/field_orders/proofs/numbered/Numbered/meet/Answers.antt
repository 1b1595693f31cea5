use Rattle.std.proofs.Common.{rules, ◌≡◌, ◌∙◌, ◌<◌, ap, sym, subst, refl, length, Some}
use Rattle.std.specs.Prelude.{slice_get}
use Rattle.std.proofs.lemmas.Option.{slice_get-get_or}
use Rattle.state_table.specs.Numbers.{Numbers}
use Rattle.state_table.proofs.Numbering.{keeps_refl, numbers_keeps}
use Rattle.field_orders.specs.declared.states.State.TheVariants.{Fields}
use Rattle.field_orders.specs.Sources.{AreMet}
use Rattle.field_orders.proofs.Meeting.{met_again, met_more, met_next, met_put, put_is}
use Rattle.field_orders.proofs.numbered.Numbered.meet.Goals as goal

pub invariant_of-self-then-place-known : goal.invariant_of-self-then-place-known
invariant_of-self-then-place-known c = met_more c.self.inside.all.items _ c.self.inside.meeting c.number.new.self c.self.inside.numbers.items (keeps_refl c.self.inside.all.items) (numbers_keeps c.in_ok-place.ensures.number) c.self.invariant

pub returns-then-place-known : goal.returns-then-place-known
returns-then-place-known c =
    let copied : c.new-copy.result ≡ c.args.left.items = c.new-copy.ensures.value ∙ c.in_ok-from_slice.ensures.items ∙ c.deref.ensures.value in
    let l : c.in_ok-place.place < length c.self.inside.numbers.items = search rules in
    let at : slice_get c.self.inside.numbers.items c.in_ok-place.place ≡ Some c.index.result.now = slice_get-get_or c.self.inside.numbers.items c.in_ok-place.place c.index.result.now l ∙ ap Some (sym c.index.ensures) in
    record {
      number = subst (λ v. Numbers v c.self.inside.all.items (Fields c.args.left.items c.args.next) c.index.result.now) c.self.view_is
          (met_again c.self.inside.all.items c.self.inside.meeting c.number.new.self c.self.inside.numbers.items (Fields c.args.left.items c.args.next) c.in_ok-place.place c.index.result.now c.self.invariant c.number.ensures.distinct
          (subst (λ v. Numbers c.self.inside.meeting c.number.new.self (Fields v c.args.next) c.in_ok-place.place) copied c.in_ok-place.ensures.number) at);
    }

pub invariant_of-self-in_err-push : goal.invariant_of-self-in_err-push
invariant_of-self-in_err-push c = subst (λ v. AreMet v c.number.new.self c.self.inside.numbers.items) (sym c.in_err-push.ensures.items) (met_more c.self.inside.all.items _ c.self.inside.meeting c.number.new.self c.self.inside.numbers.items (keeps_refl c.self.inside.all.items) (numbers_keeps c.in_ok-place.ensures.number) c.self.invariant)

pub invariant_of-self-in_err-push-2 : goal.invariant_of-self-in_err-push-2
invariant_of-self-in_err-push-2 c = subst (AreMet c.push.new.self.items c.number.new.self) (sym c.in_err-push-2.ensures.items) (met_put c.self.inside.all.items c.push.new.self.items c.self.inside.meeting c.number.new.self c.self.inside.numbers.items _ _ c.in_ok-place.place c.in_ok-push.ensures.items c.self.invariant c.in_ok-place.ensures.number)

pub invariant_of-self-else-place-known-2 : goal.invariant_of-self-else-place-known-2
invariant_of-self-else-place-known-2 c = met_put c.self.inside.all.items c.push.new.self.items c.self.inside.meeting c.number.new.self c.self.inside.numbers.items _ _ c.in_ok-place.place c.in_ok-push.ensures.items c.self.invariant c.in_ok-place.ensures.number

pub invariant_of-self-in_ok-push-2 : goal.invariant_of-self-in_ok-push-2
invariant_of-self-in_ok-push-2 c =
    let copied : c.new-copy.result ≡ c.new-left.result = c.new-copy.ensures.value ∙ c.in_ok-from_slice.ensures.items ∙ c.deref.ensures.value ∙ sym c.new-left.ensures.value in
    let met = met_put c.self.inside.all.items c.push.new.self.items c.self.inside.meeting c.number.new.self c.self.inside.numbers.items _ (Fields c.new-left.result c.args.next) c.in_ok-place.place c.in_ok-push.ensures.items c.self.invariant c.in_ok-place.ensures.number in
    let at : length c.self.inside.numbers.items ≡ c.in_ok-place.place = search rules in
    let put = put_is c.self.inside.all.items c.self.inside.all.items c.push.new.self.items (Fields c.new-left.result c.args.next) _ c.len-number.result refl c.in_ok-push.ensures.items refl (c.len-number.ensures ∙ c.self.inside.all.ok.0) in
    subst (AreMet c.push.new.self.items c.number.new.self) (sym c.in_ok-push-2.ensures.items) (met_next c.push.new.self.items c.number.new.self c.self.inside.numbers.items c.len-number.result (Fields c.new-left.result c.args.next) met
    (ap (slice_get c.number.new.self) at ∙ c.in_ok-place.ensures.number.stored ∙ ap (λ v. Some (Fields v c.args.next)) copied) put.stored)

pub returns-in_ok-push-2 : goal.returns-in_ok-push-2
returns-in_ok-push-2 c = record { number = put_is c.args.self.now c.self.inside.all.items c.push.new.self.items (Fields c.new-left.result c.args.next) (Fields c.args.left.items c.args.next) c.len-number.result c.self.view_is c.in_ok-push.ensures.items (ap (λ v. Fields v c.args.next) c.new-left.ensures.value) (c.len-number.ensures ∙ c.self.inside.all.ok.0) }

pub returns-else-place-known-2 : goal.returns-else-place-known-2
returns-else-place-known-2 c = record { number = put_is c.args.self.now c.self.inside.all.items c.push.new.self.items (Fields c.new-left.result c.args.next) (Fields c.args.left.items c.args.next) c.len-number.result c.self.view_is c.in_ok-push.ensures.items (ap (λ v. Fields v c.args.next) c.new-left.ensures.value) (c.len-number.ensures ∙ c.self.inside.all.ok.0) }
