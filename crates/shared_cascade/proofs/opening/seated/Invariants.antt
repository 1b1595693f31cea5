use Rattle.std.proofs.Common.{◌≡◌, All, map}
use Rattle.shared_cascade.specs.Tallies.{no_tally}
use Rattle.shared_cascade.proofs.opening.seated.Given as goal

abbrev pub invariant-loop-seat : goal.invariant-loop-seat
invariant-loop-seat l = (map (λ c. c.seat) l.callers.items ≡ l.yielded) × All (λ c. c.tally ≡ no_tally) l.callers.items × All (λ c. c.before.value ≡ c.seat) l.callers.items
