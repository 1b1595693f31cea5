use Rattle.std.proofs.Common.{◌∙◌, ◌++◌, ◌∷◌, [], ap, length, map, refl, arith}
use Rattle.std.proofs.lemmas.List.{length-append, map-append}
use Rattle.speak_core.specs.Crews.{rounds_of}
use Rattle.speak_core.specs.Parts.{lines_of}
use Rattle.speak_core.specs.declared.shares.Share.{Share}
use Rattle.speak_core.proofs.Dealing.{shares_more}
use Rattle.speak_core.proofs.crews.deal.Goals as goal

pub loop-caller-preserved : goal.loop-caller-preserved
loop-caller-preserved c =
    let grown = c.in_ok-push.ensures.items in
    let share : Share = record { caller = c.in-Some.caller; worker = c.loop-caller.worker; jobs = c.args.crew.now.settings.jobs; lines = c.args.lines; first = c.args.first; rounds = c.rounds_of-rounds.result } in
    let count = ap length grown in
    let more = length-append c.loop-caller.shares.items (share ∷ []) in
    let numbered = c.loop-caller.invariant.2 in (
      tt,
      tt,
      omega (arith, count, more, numbered),
      ap (map (λ (s : Share). s.caller)) grown ∙ map-append (λ (s : Share). s.caller) c.loop-caller.shares.items (share ∷ []) ∙ ap (λ l. l ++ c.in-Some.caller ∷ []) c.loop-caller.invariant.3,
      shares_more c.args.crew.now.settings.jobs c.args.crew.now.settings.sweep c.args.first (lines_of c.args.lines.now) c.loop-caller.shares.items c.push.new.self.items share c.loop-caller.invariant.4 grown (record { number = numbered; of = refl; all = refl; from = refl; rounds = c.rounds_of-rounds.ensures ∙ ap (λ n. rounds_of n c.args.crew.now.settings.jobs c.args.crew.now.settings.sweep) numbered }),
      c.loop-caller.invariant.5,
      c.loop-caller.invariant.6,
      c.loop-caller.invariant.7,
    )
