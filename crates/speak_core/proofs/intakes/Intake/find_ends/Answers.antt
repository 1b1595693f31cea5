use Rattle.std.proofs.Common.{◌∙◌, drop, ap, length, refl, sym}
use Rattle.std.proofs.lemmas.List.{take_rest}
use Rattle.speak_core.proofs.Intaking.{found_line, no_line}
use Rattle.speak_core.proofs.intakes.Intake.find_ends.Goals as goal

pub returns-in_default-clause-is : goal.returns-in_default-clause-is
returns-in_default-clause-is c =
    (no_line c.loop-self.self c.loop-self.invariant.0 _ c.find_byte.result _ (take_rest c.deref.result.now c.loop-self.self.seen ∙ ap (drop c.loop-self.self.seen) c.deref.ensures.value) c.find_byte.ensures c.in_default.is refl refl refl (c.len-self.ensures ∙ (sym c.deref.ensures.len ∙ ap length c.deref.ensures.value)) refl).0

pub returns-in_default-clause-all : goal.returns-in_default-clause-all
returns-in_default-clause-all c = λ few.
    (no_line c.loop-self.self c.loop-self.invariant.0 (record c.loop-self.self { seen = c.len-self.result }) c.find_byte.result _ (take_rest c.deref.result.now c.loop-self.self.seen ∙ ap (drop c.loop-self.self.seen) c.deref.ensures.value) c.find_byte.ensures c.in_default.is refl refl refl (c.len-self.ensures ∙ (sym c.deref.ensures.len ∙ ap length c.deref.ensures.value)) refl).1

pub loop-self-preserved : goal.loop-self-preserved
loop-self-preserved c = (found_line c.loop-self.self c.loop-self.invariant.0 _ c.in-Some.at c.find_byte.result _ (take_rest c.deref.result.now c.loop-self.self.seen ∙ ap (drop c.loop-self.self.seen) c.deref.ensures.value) c.find_byte.ensures c.in-Some.is c.loop-self-test.true refl refl refl refl refl, c.loop-self.invariant.1, c.loop-self.invariant.2)
