use Rattle.std.proofs.Common.{◌≡◌, ◌+◌, ℕ, List, length}
use Rattle.shared_cascade.specs.Sweeps.{SweptBy, empties}
use Rattle.shared_cascade.proofs.shared.Shared.sweep_once.Given as goal

abbrev pub invariant-loop-place : goal.invariant-loop-place
invariant-loop-place l = (words : List ℕ) × (length words ≡ l.place) × SweptBy l.self l.initial.caller l.caller (empties 0 words) l.initial.swept l.swept
    × (l.swept.done + l.swept.was ≡ l.initial.swept.done + l.initial.swept.was + l.place)
