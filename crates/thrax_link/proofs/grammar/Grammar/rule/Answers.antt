use Rattle.checked_expressions.proofs.Soundness.{is_sound}
use Rattle.thrax_link.proofs.grammar.Grammar.rule.Goals as goal

pub returns-then-eq-clause-sound : goal.returns-then-eq-clause-sound
returns-then-eq-clause-sound c =
    let v = c.deref.result.now in is_sound _ v.size v.sound v.counted v.bounded
