use Rattle.std.proofs.Common.{◌≡◌, ◌+◌}
use Rattle.place_words.specs.Seats.{IsSeatOf}
use Rattle.place_tests.proofs.words.player.Player.fill.Given as goal

abbrev pub invariant-loop-stored : goal.invariant-loop-stored
invariant-loop-stored l = IsSeatOf l.words l.self.seat × (l.self.stage ≡ 4 + l.stored)
