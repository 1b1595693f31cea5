use Rattle.std.proofs.Common.{◌≡◌, ◌≤◌, ◌∙◌, ◌++◌, ◌∷◌, [], All, Some, rules, ap, get_or, inl, inr, subst, sym, arith}
use Rattle.std.proofs.lemmas.Grind.{common_steps}
use Rattle.std.proofs.lemmas.Bool.{cases_lt}
use Rattle.std.proofs.lemmas.List.{take_more}
use Rattle.std.proofs.lemmas.List.Elements.{All-push}
use Rattle.std.proofs.lemmas.Option.{slice_get-get_or}
use Rattle.weighted_relations.specs.Relations.{IsLabel}
use Rattle.normaliser.proofs.classifying.labels.Goals as goal

pub loop-b-preserved : goal.loop-b-preserved
loop-b-preserved c =
    let i = c.loop-b.b-index in
    let line = c.args.line.now in
    let b = get_or line i 0 in
    let some : 1 ≤ b = elim (cases_lt 0 b) [
      | inl l ↦ omega (arith, l)
      | inr h ↦ absurd (c.requires i (slice_get-get_or line i 0 c.loop-b-test.true ∙ ap Some (let z : b ≡ 0 = omega (arith, h) in z)))
    ] in
    let small : b ≤ 257 = (let f = c.type_inv.line i in first_of (omega (arith, f), search rules, grind (arith, common_steps))) in (
      c.in_ok-push.ensures.items ∙ (ap (λ l. l ++ b ∷ []) c.loop-b.invariant.0 ∙ sym (take_more line i 0 c.loop-b-test.true)),
      subst (All IsLabel) (sym c.in_ok-push.ensures.items) (All-push IsLabel c.loop-b.labels.items b c.loop-b.invariant.1 (some, small)),
    )
