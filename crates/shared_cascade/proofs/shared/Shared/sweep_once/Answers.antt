use Rattle.std.specs.Prelude.{◌++◌, ◌∷◌, []}
use Rattle.std.proofs.Common.{arith, length-append}
use Rattle.shared_cascade.proofs.Rounds.{place_more}
use Rattle.shared_cascade.proofs.shared.Shared.sweep_once.Goals as goal

pub loop-place-preserved : goal.loop-place-preserved
loop-place-preserved c =
    let i = c.loop-place.invariant in
    let s = c.sweep_one.ensures.swept in
    let n = length-append i.0 (s.0 ∷ []) in
    let all = c.sweep_one.ensures.all in (
      i.0 ++ s.0 ∷ [],
      omega (arith, i.1),
      place_more c.args.self.now c.args.caller.now c.loop-place.caller c.sweep_one.new.caller i.0 c.loop-place.place s.0 c.args.swept.now c.loop-place.swept c.sweep_one.new.swept i.1 i.2 s.1,
      omega (arith, i.3),
    )
