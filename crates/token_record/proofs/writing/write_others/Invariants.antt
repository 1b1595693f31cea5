use Rattle.std.proofs.Common.{◌≡◌, ◌++◌, codes, take}
use Rattle.std.specs.List.{flat_map}
use Rattle.token_record.specs.Meaning.{token_tree}
use Rattle.token_record.specs.Written.{written_token}
use Rattle.token_record.proofs.writing.write_others.Given as goal

abbrev pub invariant-loop-token : goal.invariant-loop-token
invariant-loop-token l = l.out.items ≡ l.fn.out.items ++ flat_map (λ t. codes " " ++ written_token (token_tree t)) (take l.token-index l.tokens)
