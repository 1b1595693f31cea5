use Rattle.std.proofs.Common.{◌≡◌, ◌++◌, codes, take}
use Rattle.std.specs.List.{flat_map}
use Rattle.token_record.specs.Written.{escape}
use Rattle.token_record.proofs.writing.write_quoted.Given as goal

abbrev pub invariant-loop-byte : goal.invariant-loop-byte
invariant-loop-byte l = l.out.items ≡ l.fn.out.items ++ codes "\"" ++ flat_map escape (take l.byte-index l.value)
