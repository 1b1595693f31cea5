use Rattle.std.proofs.Common.{◌∙◌, refl, sym, subst}
use Rattle.state_table.proofs.Numbering.{keeps_push, keeps_refl}
use Rattle.field_orders.specs.Sources.{AreMet}
use Rattle.field_orders.proofs.Meeting.{met_more, put_is}
use Rattle.field_orders.proofs.numbered.Numbered.put.Goals as goal

pub invariant_of-self-2 : goal.invariant_of-self-2
invariant_of-self-2 c = subst (λ v. AreMet v c.self.inside.meeting c.self.inside.numbers.items) (sym c.in_ok-push.ensures.items) (met_more c.self.inside.all.items _ c.self.inside.meeting c.self.inside.meeting c.self.inside.numbers.items (keeps_push c.self.inside.all.items c.args.state) (keeps_refl c.self.inside.meeting) c.self.invariant)

pub returns-clause-number : goal.returns-clause-number
returns-clause-number c = put_is c.args.self.now c.self.inside.all.items c.push.new.self.items c.args.state c.args.state c.len-number.result c.self.view_is c.in_ok-push.ensures.items refl (c.len-number.ensures ∙ c.self.inside.all.ok.0)
