use Rattle.token_record.proofs.Once.{text_once}
use Rattle.token_record.proofs.Sound.{trees_writable, trees_no_zero}
use Rattle.token_record.proofs.laws.tokens_of_a_text.Goals as goal

pub returns : goal.returns
returns c = record { once = text_once; writable = trees_writable; no_zero = trees_no_zero }
