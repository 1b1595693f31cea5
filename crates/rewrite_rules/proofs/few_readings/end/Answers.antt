use Rattle.std.proofs.Common.{◌+◌, None, refl, sym, subst, ◌∙◌, append-nil}
use Rattle.rewrite_rules.specs.Begun.{IsEnd, IsEndOn}
use Rattle.rewrite_rules.specs.declared.few_readings.Begun.{Begun}
use Rattle.rewrite_rules.proofs.few_readings.end.Goals as goal

pub returns-in_ok-push : goal.returns-in_ok-push
returns-in_ok-push c =
    let e = c.args.so_far.now in
    let w = c.in-Some.weight in
    let b : Begun = record { so_far = record { input = c.in_ok-with_label.field-0; output = c.in_ok-with_label-2.field-0; weight = e.weight + w }; state = None } in
    let is : IsEnd e w b = record {
      input = c.in_ok-with_label.ensures.labels ∙ append-nil c.deref.result.now ∙ c.deref.ensures.value;
      output = c.in_ok-with_label-2.ensures.labels ∙ append-nil c.deref-in-Some.result.now ∙ c.deref-in-Some.ensures.value;
      weight = refl;
      state = refl;
    } in
    record { ended = subst (λ o. IsEndOn e o c.args.begun.now.items c.push.new.self.items) (sym c.in-Some.is) (b, is, c.in_ok-push.ensures.items) }
