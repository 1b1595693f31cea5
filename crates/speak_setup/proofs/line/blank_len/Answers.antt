use Rattle.std.proofs.Common.{◌≡◌, true, arith, rules}
use Rattle.std.proofs.lemmas.List.Elements.{All-more}
use Rattle.speak_setup.specs.Forms.{is_blank}
use Rattle.speak_setup.proofs.line.blank_len.Goals as goal

pub loop-i-preserved : goal.loop-i-preserved
loop-i-preserved c = All-more (λ b. is_blank b ≡ true) _ _ 0 (omega arith) c.loop-i.invariant (search rules)
