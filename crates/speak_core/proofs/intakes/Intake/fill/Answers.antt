use Rattle.std.proofs.Common.{◌≡◌, ◌∙◌, rules, arith, subst, sym}
use Rattle.std.proofs.lemmas.Grind.{common_steps}
use Rattle.std.specs.Result.{IsErrOf}
use Rattle.speak_core.specs.Inputs.{IfGaveTooMuch}
use Rattle.speak_core.specs.declared.stop.Stop.TheVariants as stop
use Rattle.speak_core.proofs.Intaking.{holds_limit, holds_same, holds_within}
use Rattle.speak_core.proofs.intakes.Intake.fill.Goals as goal

pub returns-then-self-eq-MOST_LINES-clause-only_too_long : goal.returns-then-self-eq-MOST_LINES-clause-only_too_long
returns-then-self-eq-MOST_LINES-clause-only_too_long g c = λ start handled h. holds_limit start (g.S.Source.left c.loop-self.source) handled c.loop-self.self (c.loop-self.invariant.1 start handled h) c.loop-self.invariant.0 _

pub returns-in_err-is_more-clause-within : goal.returns-in_err-is_more-clause-within
returns-in_err-is_more-clause-within g c = λ start handled batches h whole before.
    holds_within start (g.S.Source.left c.loop-self.source) handled c.find_ends.new.self
    (holds_same start (g.S.Source.left c.loop-self.source) handled c.loop-self.self (c.loop-self.invariant.1 start handled h) c.find_ends.new.self c.find_ends.ensures.bytes c.find_ends.ensures.given) (g.S.Source.left c.read_more.new.source) batches c.find_ends.new.self.lines whole
    c.find_ends.ensures.all c.find_ends.ensures.is.few c.if-self-eq-MOST_LINES.false c.read_more.ensures.once

pub returns-in_err-is_more-clause-too_long : goal.returns-in_err-is_more-clause-too_long
returns-in_err-is_more-clause-too_long g c = λ start handled h long.
    let same : c.from_residual.result ≡ c.read_more.result = first_of (search rules, grind (arith, common_steps)) in
    c.read_more.ensures.too_long start handled (holds_same start (g.S.Source.left c.loop-self.source) handled c.loop-self.self (c.loop-self.invariant.1 start handled h) c.find_ends.new.self c.find_ends.ensures.bytes c.find_ends.ensures.given) (sym same ∙ long)

pub returns-in_err-is_more-clause-only_too_long : goal.returns-in_err-is_more-clause-only_too_long
returns-in_err-is_more-clause-only_too_long g c = λ start handled h.
    let same : c.from_residual.result ≡ c.read_more.result = first_of (search rules, grind (arith, common_steps)) in
    subst (λ r. IfGaveTooMuch start (g.S.Source.left c.read_more.new.source) (IsErrOf r stop.TooLong)) (sym same)
    (c.read_more.ensures.only_too_long start handled (holds_same start (g.S.Source.left c.loop-self.source) handled c.loop-self.self (c.loop-self.invariant.1 start handled h) c.find_ends.new.self c.find_ends.ensures.bytes c.find_ends.ensures.given))

pub returns-then-not-is_more-clause-holds : goal.returns-then-not-is_more-clause-holds
returns-then-not-is_more-clause-holds g c = λ start handled h.
    c.in_ok-is_more.ensures.holds start handled (holds_same start (g.S.Source.left c.loop-self.source) handled c.loop-self.self (c.loop-self.invariant.1 start handled h) c.find_ends.new.self c.find_ends.ensures.bytes c.find_ends.ensures.given)

pub returns-then-not-is_more-clause-within : goal.returns-then-not-is_more-clause-within
returns-then-not-is_more-clause-within g c = λ start handled batches h whole before.
    holds_within start (g.S.Source.left c.loop-self.source) handled c.find_ends.new.self
    (holds_same start (g.S.Source.left c.loop-self.source) handled c.loop-self.self (c.loop-self.invariant.1 start handled h) c.find_ends.new.self c.find_ends.ensures.bytes c.find_ends.ensures.given) (g.S.Source.left c.read_more.new.source) batches c.find_ends.new.self.lines whole
    c.find_ends.ensures.all c.find_ends.ensures.is.few c.if-self-eq-MOST_LINES.false c.read_more.ensures.once

pub returns-then-not-is_more-clause-only_too_long : goal.returns-then-not-is_more-clause-only_too_long
returns-then-not-is_more-clause-only_too_long g c = λ start handled h.
    holds_limit start (g.S.Source.left c.read_more.new.source) handled c.read_more.new.self
    (c.in_ok-is_more.ensures.holds start handled (holds_same start (g.S.Source.left c.loop-self.source) handled c.loop-self.self (c.loop-self.invariant.1 start handled h) c.find_ends.new.self c.find_ends.ensures.bytes c.find_ends.ensures.given)) c.in_ok-is_more.ensures.is _

pub loop-self-preserved : goal.loop-self-preserved
loop-self-preserved g c = (
  c.in_ok-is_more.ensures.is,
  λ start handled h. c.in_ok-is_more.ensures.holds start handled (holds_same start (g.S.Source.left c.loop-self.source) handled c.loop-self.self (c.loop-self.invariant.1 start handled h) c.find_ends.new.self c.find_ends.ensures.bytes c.find_ends.ensures.given),
  λ start handled batches h whole before.
      holds_within start (g.S.Source.left c.loop-self.source) handled c.find_ends.new.self
      (holds_same start (g.S.Source.left c.loop-self.source) handled c.loop-self.self (c.loop-self.invariant.1 start handled h) c.find_ends.new.self c.find_ends.ensures.bytes c.find_ends.ensures.given) (g.S.Source.left c.read_more.new.source) batches c.find_ends.new.self.lines whole
      c.find_ends.ensures.all c.find_ends.ensures.is.few c.if-self-eq-MOST_LINES.false c.read_more.ensures.once,
  c.in_ok-is_more.ensures.counts ∙ c.loop-self.invariant.3,
  c.read_more.ensures.piece ∙ c.loop-self.invariant.4,
)
