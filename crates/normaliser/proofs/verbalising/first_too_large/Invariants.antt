use Rattle.token_record.specs.Meaning.{token_trees}
use Rattle.normaliser.specs.Parts.{NoneBefore}
use Rattle.normaliser.specs.Words.{HasTooMany}
use Rattle.normaliser.proofs.verbalising.first_too_large.Given as goal

abbrev pub invariant-loop-i : goal.invariant-loop-i
invariant-loop-i l = NoneBefore HasTooMany (token_trees l.tokens) l.i
