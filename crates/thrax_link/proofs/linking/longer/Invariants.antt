use Rattle.std.proofs.Common.{◌≡◌, take}
use Rattle.thrax_link.proofs.linking.longer.Given as goal

abbrev pub invariant-loop-file : goal.invariant-loop-file
invariant-loop-file l = l.below.items ≡ take l.file-index l.chain
