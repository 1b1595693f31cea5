use Rattle.std.proofs.Common.{◌≡◌, length, get_or}
use Rattle.place_tests.proofs.table.finding.rows.Given as goal

abbrev pub invariant-loop-i : goal.invariant-loop-i
invariant-loop-i l = (length l.code ≡ 2043) × (get_or l.code 0 0 ≡ 2043)
