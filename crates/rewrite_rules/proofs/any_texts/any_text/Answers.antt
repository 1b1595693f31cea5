use Rattle.std.proofs.Common.{Some, subst, sym, ap, ◌∙◌}
use Rattle.weighted_relations.specs.Relations.{Same}
use Rattle.weighted_relations.specs.Machines.{WellFormed, Reads}
use Rattle.fst_core.specs.States.{with_state, as_machine}
use Rattle.rewrite_rules.specs.AnyTexts.{AnyText}
use Rattle.rewrite_rules.proofs.AnyReadings.{any_whole, any_reads}
use Rattle.rewrite_rules.proofs.any_texts.any_text.Goals as goal

pub finish-requires : goal.finish-requires
finish-requires c = record {
  sound =
      subst (λ b. WellFormed (as_machine 0 b)) (sym (c.in_ok-push.ensures.value ∙ ap (λ b. with_state b c.in_ok-loops.field-0.items (Some 0)) c.new-built.ensures.value))
      (any_whole c.in_ok-loops.field-0.items c.in_ok-loops.ensures.loops);
}

pub returns : goal.returns
returns c = record {
  readings =
      subst (λ m. Same (Reads m) AnyText) (sym (c.finish.ensures.value ∙ ap (as_machine 0) (c.in_ok-push.ensures.value ∙ ap (λ b. with_state b c.in_ok-loops.field-0.items (Some 0)) c.new-built.ensures.value)))
      (any_reads c.in_ok-loops.field-0.items c.in_ok-loops.ensures.loops);
}
