use Rattle.std.proofs.Common.{◌≡◌, length}
use Rattle.cascade_tests.proofs.decodings.random_cascade.Given as goal

abbrev pub invariant-loop : goal.invariant-loop
invariant-loop l = length l.parts.items ≡ l.counter
