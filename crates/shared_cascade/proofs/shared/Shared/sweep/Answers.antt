use Rattle.std.specs.Prelude.{◌++◌, []}
use Rattle.std.proofs.Common.{arith, refl}
use Rattle.shared_cascade.specs.Callers.{places_in}
use Rattle.shared_cascade.specs.Sweeps.{nothing_swept}
use Rattle.shared_cascade.proofs.Rounds.{nothing_yet, rounds_more, then}
use Rattle.shared_cascade.proofs.shared.Shared.sweep.Goals as goal

pub loop-round-init : goal.loop-round-init
loop-round-init c = ([], refl, nothing_yet c.args.self.now c.args.caller.now nothing_swept c.requires.ready, omega arith)

pub loop-round-preserved : goal.loop-round-preserved
loop-round-preserved c =
    let i = c.loop-round.invariant in
    let s = c.sweep_once.ensures.swept in
    let all = c.sweep_once.ensures.all in (
      i.0 ++ s.0,
      rounds_more (places_in c.args.self.now) c.loop-round._round i.0 s.0 i.1 s.1,
      then c.args.self.now c.args.caller.now c.loop-round.caller c.sweep_once.new.caller i.0 s.0 nothing_swept c.loop-round.swept c.sweep_once.new.swept i.2 s.2,
      omega (arith, i.3),
    )
