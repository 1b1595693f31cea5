use Rattle.std.specs.Prelude.{◌≡◌, ◌+◌}
use Rattle.std.proofs.Common.{refl, arith}
use Rattle.place_words.specs.declared.layout.TheConstants.{STATE}
use Rattle.shared_cascade.proofs.Rounds.{not_taken, one_place}
use Rattle.shared_cascade.proofs.shared.Shared.sweep_one.Goals as goal

pub returns-in-Done-clause-swept : goal.returns-in-Done-clause-swept
returns-in-Done-clause-swept c =
    let p = c.in-Done.ensures.empty in
    let old = c.args.swept.now in
    let was : old.was ≡ old.was + 0 = omega arith in
    (STATE, one_place c.args.self.now c.args.caller.now _ c.args.place STATE p.0 old _ c.requires.ready c.in-Done.ensures.own p.1 p.2 refl refl refl was)

pub returns-in-Was-clause-swept : goal.returns-in-Was-clause-swept
returns-in-Was-clause-swept c =
    let p = c.in-Was.ensures.empty in
    let w = c.in-Was.field-0 in
    let old = c.args.swept.now in
    let done = not_taken w old.done p.1.0 in
    let was = not_taken w old.was p.1.0 in
    (w, one_place c.args.self.now c.args.caller.now _ c.args.place w p.0 old _ c.requires.ready c.in-Was.ensures.own p.1.1 p.2 refl refl done.0 was.1)
