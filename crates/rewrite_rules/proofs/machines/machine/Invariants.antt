use Rattle.std.proofs.Common.{◌≡◌, ◌<◌, ◌-◌, ◌^◌, length, get_or}
use Rattle.rewrite_rules.specs.declared.spots.Spot.TheVariants.{Hub}
use Rattle.rewrite_rules.specs.Drawn.{Built}
use Rattle.rewrite_rules.proofs.machines.machine.Given as goal

abbrev pub invariant-rows : goal.invariant-rows
invariant-rows l = record { built : Built l.tau l.t.automata l.spots l.built; first : l.start < length l.spots; hub : get_or l.spots l.start Hub ≡ Hub }

abbrev pub decreases-rows : goal.decreases-rows
decreases-rows l = 2 ^ 63 - length l.built.arcs
