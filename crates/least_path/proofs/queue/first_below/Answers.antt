use Rattle.std.proofs.Common.{◌≡◌, ◌+◌, ◌*◌, arith, refl, sym, subst, inl, inr}
use Rattle.std.proofs.lemmas.Bool.{false≢true, cases_eq}
use Rattle.least_path.specs.Waiting.{Before, at_place}
use Rattle.least_path.proofs.Heaps.{before_refl, before_other}
use Rattle.least_path.proofs.queue.first_below.Goals as goal

pub returns-then-left-entries-clause-first : goal.returns-then-left-entries-clause-first
returns-then-left-entries-clause-first c = λ k h l.
    let low = h.low in
    let high = h.high in
    let same : k ≡ 2 * c.args.at + 1 = omega (arith, c.if-left-entries.true) in
    subst (λ t. Before c.args.outputs.now (at_place c.args.entries.now (2 * c.args.at + 1)) (at_place c.args.entries.now t)) (sym same) (before_refl c.args.outputs.now (at_place c.args.entries.now (2 * c.args.at + 1)))

pub returns-then-is_before-clause-first : goal.returns-then-is_before-clause-first
returns-then-is_before-clause-first c = λ k h l. elim (cases_eq k (2 * c.args.at + 1)) [
  | inl e ↦ subst (λ t. Before c.args.outputs.now (at_place c.args.entries.now (2 * c.args.at + 1)) (at_place c.args.entries.now t)) (sym e) (before_refl c.args.outputs.now (at_place c.args.entries.now (2 * c.args.at + 1)))
  | inr ne ↦
      let low = h.low in
      let high = h.high in
      let same : k ≡ 2 * c.args.at + 1 + 1 = omega arith in
      subst (λ t. Before c.args.outputs.now (at_place c.args.entries.now (2 * c.args.at + 1)) (at_place c.args.entries.now t)) (sym same) (c.if-is_before.ensures.0 refl)
]

pub returns-else-is_before-clause-first : goal.returns-else-is_before-clause-first
returns-else-is_before-clause-first c = λ k h l. elim (cases_eq k (2 * c.args.at + 1 + 1)) [
  | inl e ↦ subst (λ t. Before c.args.outputs.now (at_place c.args.entries.now (2 * c.args.at + 1 + 1)) (at_place c.args.entries.now t)) (sym e) (before_refl c.args.outputs.now (at_place c.args.entries.now (2 * c.args.at + 1 + 1)))
  | inr ne ↦
      let low = h.low in
      let high = h.high in
      let same : k ≡ 2 * c.args.at + 1 = omega arith in
      subst (λ t. Before c.args.outputs.now (at_place c.args.entries.now (2 * c.args.at + 1 + 1)) (at_place c.args.entries.now t)) (sym same) (before_other c.args.outputs.now (at_place c.args.entries.now (2 * c.args.at + 1)) (at_place c.args.entries.now (2 * c.args.at + 1 + 1)) (λ b. false≢true (c.if-is_before.ensures.1 b)))
]
