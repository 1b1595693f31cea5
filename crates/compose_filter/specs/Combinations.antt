-- The list of the moves of two transducers together.
use Rattle.std.specs.Prelude.{ℕ, List, Option}
use Rattle.weighted_relations.specs.declared.Arc.{Arc}
use Rattle.compose_filter.specs.declared.filters.Filter.{Filter}
use Rattle.compose_filter.specs.declared.filters.Taken.{Taken}
use Rattle.compose_filter.specs.declared.filters.Move.{Move}
use Rattle.compose_filter.specs.declared.matches.Meeting.{Meeting}
use Rattle.compose_filter.specs.declared.steps.Step.{Step}
use Rattle.compose_filter.specs.Steps.{both_step, first_step, second_step, both_steps, together}

abbrev pub meeting : ℕ → ℕ → Filter → Taken → Meeting
meeting qa qb f t = record { qa = qa; qb = qb; filter = f; taken = t }

-- an arc of the first
abbrev pub arc_step : Arc → Step ℕ
arc_step x = record { input = x.input; output = x.output; weight = x.weight; next = x.next }

abbrev pub move_of : Step Meeting → Move
move_of s = record { input = s.input; output = s.output; weight = s.weight; qa = s.next.qa; qb = s.next.qb; filter = s.next.filter; taken = s.next.taken }

abbrev pub joint : Arc → Arc → Option Move
joint = both_step arc_step meeting move_of

abbrev pub first_alone : ℕ → Filter → Arc → Option Move
first_alone = first_step arc_step meeting move_of

abbrev pub second_alone : ℕ → Arc → Option Move
second_alone = second_step arc_step meeting move_of

abbrev pub all_joint : List Arc → List Arc → List Move
all_joint = both_steps arc_step meeting move_of

-- all moves, by the arcs of the first at its state qa and those of the second at its state qb
abbrev pub combinations : List Arc → ℕ → List Arc → ℕ → Filter → List Move
combinations = together arc_step meeting move_of
