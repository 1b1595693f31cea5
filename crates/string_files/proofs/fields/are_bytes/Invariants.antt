use Rattle.std.proofs.Common.{◌≡◌, length}
use Rattle.string_files.specs.Fields.{are_bytes}
use Rattle.string_files.proofs.fields.are_bytes.Given as goal

abbrev pub invariant-loop-rest : goal.invariant-loop-rest
invariant-loop-rest l = are_bytes l.rest ≡ are_bytes l.bytes

abbrev pub decreases-loop-rest : goal.decreases-loop-rest
decreases-loop-rest l = length l.rest
