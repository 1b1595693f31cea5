use Rattle.std.proofs.Common.{length}
use Rattle.text_forms.proofs.Chains.{Stands}
use Rattle.token_record.specs.Meaning.{token_trees}
use Rattle.token_record.specs.Texts.{TokenAt}
use Rattle.token_record.proofs.reading.read_tokens.Given as goal

abbrev pub invariant-loop-tokens : goal.invariant-loop-tokens
invariant-loop-tokens l = Stands TokenAt l.fn.text (token_trees l.tokens.items) l.rest

abbrev pub decreases-loop-tokens : goal.decreases-loop-tokens
decreases-loop-tokens l = length l.rest
