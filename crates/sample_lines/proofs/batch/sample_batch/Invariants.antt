use Rattle.std.proofs.Common.{◌≡◌, ◌<◌, ◌^◌, map}
use Rattle.sample_lines.specs.Lines.{sampled}
use Rattle.sample_lines.proofs.batch.sample_batch.Given as goal

abbrev pub invariant-loop : goal.invariant-loop
invariant-loop l =
    (map (λ line. line.items) l.lines.items ≡ (sampled l.counter l.state).value)
    × (l.next ≡ (sampled l.counter l.state).state)
    × (l.next < 2 ^ 31)
