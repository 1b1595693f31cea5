use Rattle.std.proofs.Common.{◌∙◌, Vec, Global, ℕ, ap, length, length-drop, refl, arith}
use Rattle.speak_core.proofs.Intaking.{intake_anew}
use Rattle.speak_core.proofs.intakes.Intake.take_text.Goals as goal

pub returns-clause-is : goal.returns-clause-is
returns-clause-is c =
    let size = ap (λ (v : Vec ℕ Global). length v.items) c.replace.ensures.after ∙ (ap length c.in_ok-rest.ensures.tail ∙ length-drop c.if-is_full.end c.args.self.now.bytes.items) in
    intake_anew _ refl refl refl c.requires.within (let kept = c.requires.kept in omega (arith, size, kept))
