use Rattle.std.proofs.Common.{◌≡◌, take}
use Rattle.string_files.proofs.entries.labels.Given as goal

abbrev pub invariant-loop-b : goal.invariant-loop-b
invariant-loop-b l = l.labels.items ≡ take l.b-index l.bytes
