use Rattle.std.proofs.Common.{◌≡◌, ◌+◌}
use Rattle.std.specs.List.{join_with_byte}
use Rattle.sample_lines.specs.Draws.{next_state}
use Rattle.sample_lines.specs.Lines.{pieces}
use Rattle.sample_lines.proofs.lines.sample_line.Given as goal

abbrev pub invariant-loop : goal.invariant-loop
invariant-loop l =
    (l.text.items ≡ join_with_byte 32 (pieces (l.counter + 1) (next_state l.state)).value)
    × (l.draws.state ≡ (pieces (l.counter + 1) (next_state l.state)).state)
