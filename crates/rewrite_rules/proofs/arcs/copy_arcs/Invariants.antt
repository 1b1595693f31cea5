use Rattle.std.proofs.Common.{◌≡◌, ◌++◌, take, map}
use Rattle.rewrite_rules.specs.Steps.{copy_arc}
use Rattle.rewrite_rules.proofs.arcs.copy_arcs.Given as goal

abbrev pub invariant-loop-byte : goal.invariant-loop-byte
invariant-loop-byte l = l.row.items ≡ l.initial.row.items ++ map (copy_arc l.next) (take l.byte-index l.bytes)
